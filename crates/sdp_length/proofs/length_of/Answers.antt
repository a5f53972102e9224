-- `sdp_length::length_of` meets its contract. Assumes nothing.
use Rattle.sdp_length.proofs.WholeLaws.{written_is}
use native.Mathlib.Omega.{arith}
use Rattle.sdp_length.proofs.length_of.Goals as goal

pub returns : goal.returns
returns c =
    (omega (arith, written_is c.args.text.now c.args.area.now c.requires.area_value), omega arith)

pub head_len-requires : goal.head_len-requires
head_len-requires c = omega (arith, c.requires.counted.whole)

pub when_len-requires : goal.when_len-requires
when_len-requires c = c.requires.counted

pub tables_len-requires : goal.tables_len-requires
tables_len-requires c = c.requires.counted
