-- `sdp_put::Out::some` meets its contract. Assumes nothing.
use Rattle.sdp_put.proofs.OutLaws.{put_part}
use mathlib.Core.Path.{refl}
use native.Mathlib.Omega.{arith}
use Rattle.sdp_put.proofs.Out.some.Goals as goal

pub returns : goal.returns
returns c =
    record {
      same = refl;
      put = record {
        puts = λ l h. (rw c.copy.ensures (put_part _ _ _ _ _ _ c.min-at.ensures c.min-n.ensures (omega arith)), c.saturating_add-self.ensures);
      };
    }
