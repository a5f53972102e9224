-- `sdp_write::length` meets its contract. Assumes nothing.
use Rattle.sdp_write.proofs.WriteLaws.{no_length, its_length}
use Rattle.sdp_unfit.proofs.UnfitLaws.{numbered, fit-counted, fit-owned}
use mathlib.Core.Path.{sym, ◌∙◌}
use Rattle.sdp_write.proofs.length.Goals as goal

pub returns-in-Err : goal.returns-in-Err
returns-in-Err c = c.told.ensures ∙ sym (no_length _ _ _ (c.into.ensures ∙ c.in-Err.ensures) (numbered _ _ c.into.ensures))

pub length_of-requires : goal.length_of-requires
length_of-requires c =
    let f = sym c.in_default.ensures in record { counted = fit-counted _ _ f; area_value = fit-owned _ _ f }

pub returns : goal.returns
returns c =
    c.told-2.ensures ∙ sym (its_length _ _ (sym c.in_default.ensures) _ c.length_of.ensures.0)
