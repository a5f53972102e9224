-- An output with its place, and what is put there.
use Rattle.std.specs.Prelude.{◌≡◌, List, ℕ}
use Rattle.sdp_put.specs.declared.Out.{Out}
use Rattle.sdp_put.specs.Out.{Put}

-- x with bs put from its place on is y: the same memory is lent
pub record Puts (x : Out) (bs : List ℕ) (y : Out) : Type 0 where
  pub same : y.bytes.ghost_name ≡ x.bytes.ghost_name
  pub put : Put x.bytes.now x.at bs y.bytes.now y.at
