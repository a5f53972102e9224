-- Where a byte stands, and runs of bytes that pass a test.
use Rattle.std.specs.Prelude.{ℕ, zero, suc, Bool, true, false, ◌&&◌, cond, List, [], ◌∷◌, eqb}

-- the index of the first b, or the length where there is none
unfoldable pub index_of : ℕ → List ℕ → ℕ
index_of b [] = 0
index_of b (x ∷ s) = cond (eqb x b) 0 (suc (index_of b s))

-- the first k bytes are there and pass the test
unfoldable pub run : (ℕ → Bool) → ℕ → List ℕ → Bool
run p zero s = true
run p (suc k) [] = false
run p (suc k) (b ∷ s) = p b && run p k s

-- how many bytes at the beginning pass the test
unfoldable pub run_len : (ℕ → Bool) → List ℕ → ℕ
run_len p [] = 0
run_len p (b ∷ s) = cond (p b) (suc (run_len p s)) 0
