-- `sdp_put::number_at` meets its contract. Assumes nothing.
use Rattle.sdp_put.proofs.OutLaws.{◌then◌, said}
use Rattle.sdp_put.proofs.DigitLaws.{digits_four}
use Rattle.sdp_put.proofs.+number_at.Goals as goal

pub returns : goal.returns
returns t c = said (digits_four _ c.if-v-lt10000.false) (c.number_at-next.ensures then c.four_at.ensures)
