-- Document 02, P7: "Our small receiver wants the length before it finds memory." What the two calls say of each other, for any text t and any area a.
use Rattle.std.specs.Prelude.{◌≡◌, List, ◌++◌, ℕ, ◌≤◌, ◌<◌, length, drop}
use Rattle.sdp_numbers.specs.Refusals as refusals
use Rattle.sdp_write.specs.Write.{answer, text_of, length_text, fill_text}

-- n is the length that the fill needs
pub record Needs (t a : List ℕ) (n : ℕ) : Type 0 where
  -- n bytes are what is written, and there are always some
  pub bytes : length (text_of t a) ≡ n
  pub some : 0 < n
  -- a fill into n bytes, or into more, answers 0 with n and writes these bytes; those behind them are as found
  pub enough : (o : List ℕ) → n ≤ length o → fill_text t a o ≡ record { answer = answer 0 n; out = text_of t a ++ drop n o }
  -- into one byte less, or still fewer, it answers 22 with n, and the output is as found
  pub short : (o : List ℕ) → length o < n → fill_text t a o ≡ record { answer = answer refusals.output_too_short n; out = o }

-- the length call, and then the fill
pub record LengthThenFill (t a : List ℕ) : Type 0 where
  -- where the length call answers 0, its length is the one that the fill needs
  pub needs : (length_text t a).number ≡ 0 → Needs t a (length_text t a).len
  -- "2, 1 and 23 in both": where it refuses, the fill refuses alike, and the output is as found
  pub alike : ((length_text t a).number ≡ 0 → ⊥) → (o : List ℕ) → fill_text t a o ≡ record { answer = length_text t a; out = o }
  -- "22 only in the fill"
  pub never : (length_text t a).number ≡ refusals.output_too_short → ⊥
