-- Document 01, "What the promises settle": "Prove that no second answer satisfies it". A promise says of the lifetimes, the arguments, the
-- answer and what stands at the exit whether they agree. Arguments and the rest may be of any type.
use Rattle.std.specs.Prelude.{◌≡◌, List, ℕ, ◌<◌, ◌^◌, length}
use Rattle.sdp_put.specs.declared.Out.{Out}

module _ {L : Type 0} {A Z E : L → Type 0} where
  -- two answers that satisfy the promise for the same arguments are the same
  abbrev pub OneAnswer : ((κs : L) → A κs → Z κs → E κs → Type 0) → Type 0
  OneAnswer promise = (κs : L) (a : A κs) (z z' : Z κs) (e e' : E κs) → promise κs a z e → promise κs a z' e' → z ≡ z'

  -- the same of what is seen of an answer: of a slice that is handed out, its bytes
  abbrev pub OneSeen : {X : Type 0} → ((κs : L) → Z κs → X) → ((κs : L) → A κs → Z κs → E κs → Type 0) → Type 0
  OneSeen see promise = (κs : L) (a : A κs) (z z' : Z κs) (e e' : E κs) → promise κs a z e → promise κs a z' e' → see κs z ≡ see κs z'

  -- the same where memory is lent to be written: the answers are the same, and all of that memory at the exit is
  abbrev pub OneState : {X : Type 0} → ((κs : L) → E κs → X) → ((κs : L) → A κs → Z κs → E κs → Type 0) → Type 0
  OneState after promise =
      (κs : L) (a : A κs) (z z' : Z κs) (e e' : E κs) → promise κs a z e → promise κs a z' e' → (z ≡ z') × (after κs e ≡ after κs e')

  -- the same of what puts bytes into an output: its bytes and its place at the exit are the same, and it is one and the same slice, by its
  -- ghost name; a slice's length and a place are always below 2^64
  abbrev pub OnePut : ((κs : L) → A κs → Out) → ((κs : L) → E κs → Out) → ((κs : L) → A κs → Z κs → E κs → Type 0) → Type 0
  OnePut before after promise =
      (κs : L) (a : A κs) (z z' : Z κs) (e e' : E κs) → length (before κs a).bytes.now < 2 ^ 64 → (before κs a).at < 2 ^ 64
      → promise κs a z e → promise κs a z' e'
      → ((after κs e).at ≡ (after κs e').at) × ((after κs e).bytes.now ≡ (after κs e').bytes.now)
      × ((after κs e).bytes.ghost_name ≡ (after κs e').bytes.ghost_name)

  -- the same for the arguments that satisfy a condition; seen is the part of what stands at the exit that the promise speaks of
  abbrev pub OneWhere : ((κs : L) → A κs → Type 0) → ((κs : L) → Z κs → E κs → List ℕ) → ((κs : L) → A κs → Z κs → E κs → Type 0) → Type 0
  OneWhere given seen promise =
      (κs : L) (a : A κs) (z z' : Z κs) (e e' : E κs) → given κs a
      → promise κs a z e → promise κs a z' e' → (z ≡ z') × (seen κs z e ≡ seen κs z' e')
