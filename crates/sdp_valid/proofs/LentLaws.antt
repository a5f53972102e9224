-- How long a closure lives that holds a lent struct: as long as the loan, and what the struct lends. Assumes nothing.
use mathlib.Core.List.{[], ◌++◌}
use base.Fml.{Lft}
use contract.BorrowLft.{◌⊑◌, ⊑_meet, ⊑_static}

module _ (x y z : Lft) (h : x ⊑ y) (l : x ⊑ z) where
  slice_lives : x ⊑ z ++ []
  slice_lives = ⊑_meet x z [] l (⊑_static x)

  -- a struct of one slice
  pub one_lives : x ⊑ (((y ++ ((z ++ []) ++ [])) ++ []) ++ ((y ++ ((z ++ []) ++ [])) ++ []))
  one_lives = ⊑_meet x _ _ part part
    where
      part : x ⊑ ((y ++ ((z ++ []) ++ [])) ++ [])
      part = ⊑_meet x _ _ (⊑_meet x _ _ h (⊑_meet x _ _ slice_lives (⊑_static x))) (⊑_static x)

  -- of two
  pub two_live : x ⊑ (((y ++ ((z ++ []) ++ ((z ++ []) ++ []))) ++ []) ++ ((y ++ ((z ++ []) ++ ((z ++ []) ++ []))) ++ []))
  two_live = ⊑_meet x _ _ part part
    where
      part : x ⊑ ((y ++ ((z ++ []) ++ ((z ++ []) ++ []))) ++ [])
      part = ⊑_meet x _ _ (⊑_meet x _ _ h (⊑_meet x _ _ slice_lives (⊑_meet x _ _ slice_lives (⊑_static x)))) (⊑_static x)
