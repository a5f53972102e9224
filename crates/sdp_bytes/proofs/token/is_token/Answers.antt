-- `sdp_bytes::token::is_token` meets its contract. Assumes nothing.
use Rattle.std.proofs.Common.{rules, refl}
use Rattle.std.proofs.lemmas.Iterator.{YieldsList-from_slice}
use Rattle.std.proofs.lemmas.Iterator.Search.{all_from_yields_List}
use borrow.Author.Tests.{tests}
use Rattle.sdp_bytes.specs.Token.{token_char}
use Rattle.sdp_bytes.proofs.TokenLaws.{token-is}
use Rattle.sdp_bytes.proofs.token.is_token.Goals as goal

pub returns-then-not-is_empty : goal.returns-then-not-is_empty
returns-then-not-is_empty c =
    let e = all_from_yields_List token_char _ _ c.all.result c.all.ensures.ran (YieldsList-from_slice c.args.s.now cc) (λ x b q k. search (rules, tests)) in
    rw (token-is, ← c.is_empty.ensures, c.if-not-is_empty.true) e

pub returns-else-not-is_empty : goal.returns-else-not-is_empty
returns-else-not-is_empty c = rw (token-is, ← c.is_empty.ensures, c.if-not-is_empty.false) refl
