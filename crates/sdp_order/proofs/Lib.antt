pub mod ExpressionLaws
pub mod SeenLaws
pub mod FindLaws
pub mod PassLaws
pub mod GrammarLaws
pub mod AnswerLaws
pub mod Described
