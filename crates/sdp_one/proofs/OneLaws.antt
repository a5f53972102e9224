-- Two that satisfy one equation are the same. Assumes nothing.
use mathlib.Core.Path.{◌≡◌, sym, ◌∙◌}
use mathlib.Core.List.{List}
use Prim.Native.Nat.{ℕ, ◌<◌, ◌^◌}
use lib.ListN.{length}
use Rattle.sdp_put.specs.declared.Out.{Out}
use Rattle.sdp_put.specs.Puts.{Puts}

-- r ≡ f x has one answer
pub same : {A : Type 0} {r r' y : A} → r ≡ y → r' ≡ y → r ≡ r'
same p q = p ∙ sym q

-- the emitters' promise has one answer and one output, in one slice, where a length and a place fit 64 bits
pub same_put
    : {x y z : Out} {bs : List ℕ} → length x.bytes.now < 2 ^ 64 → x.at < 2 ^ 64 → Puts x bs y → Puts x bs z
    → (y.at ≡ z.at) × (y.bytes.now ≡ z.bytes.now) × (y.bytes.ghost_name ≡ z.bytes.ghost_name)
same_put l k p q = (same (p.put.puts l k).1 (q.put.puts l k).1, same (p.put.puts l k).0 (q.put.puts l k).0, same p.same q.same)
