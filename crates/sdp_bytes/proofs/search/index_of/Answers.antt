-- `sdp_bytes::search::index_of` meets its contract. Assumes nothing.
use Rattle.std.proofs.Common.{rules}
use Rattle.std.proofs.lemmas.Iterator.{YieldsList-from_slice}
use Rattle.std.proofs.lemmas.Iterator.Search.{position_from_yields_List}
use borrow.Author.Tests.{tests}
use lib.Dec.{eqb}
use Rattle.sdp_bytes.proofs.ScanLaws.{index-found}
use Rattle.sdp_bytes.proofs.search.index_of.Goals as goal

pub returns : goal.returns
returns c =
    let e = position_from_yields_List (λ x. eqb x c.args.b) _ _ c.position.result c.position.ensures.ran (YieldsList-from_slice c.args.s.now cc) (λ x b q k. search (rules, tests)) in
    rw (c.unwrap_or.ensures, e) (index-found _ _)
