-- The example world. Its members are all whole numbers, whatever the sort: each natural number is a member, and stands
-- for the whole number that it tells. No relation holds, as the theory has none.
use Rattle.std.specs.Prelude.{◌+ℤ◌, ◌-ℤ◌, ℕ, ℤ, pos, true, false, Option, Some, None, List, [], ◌∷◌, map, codes, slice_get, slice_index_or}
use Rattle.am_world.specs.Interpretation.{Interpretation}
use Rattle.am_example.specs.Whole.{zigzag, unzigzag}

-- what a symbol gives at whole numbers: at those handed to it, and at 0 in place of one that is missing

abbrev pub argument : List ℤ → ℕ → ℤ
argument xs k = slice_index_or xs k (pos 0)

abbrev pub always : ℤ → List ℤ → ℤ
always z xs = z

abbrev pub by_one : (ℤ → ℤ) → List ℤ → ℤ
by_one f xs = f (argument xs 0)

abbrev pub by_two : (ℤ → ℤ → ℤ) → List ℤ → ℤ
by_two f xs = f (argument xs 0) (argument xs 1)

abbrev pub by_four : (ℤ → ℤ → ℤ → ℤ → ℤ) → List ℤ → ℤ
by_four f xs = f (argument xs 0) (argument xs 1) (argument xs 2) (argument xs 3)

abbrev pub by_five : (ℤ → ℤ → ℤ → ℤ → ℤ → ℤ) → List ℤ → ℤ
by_five f xs = f (argument xs 0) (argument xs 1) (argument xs 2) (argument xs 3) (argument xs 4)

abbrev pub by_six : (ℤ → ℤ → ℤ → ℤ → ℤ → ℤ → ℤ) → List ℤ → ℤ
by_six f xs = f (argument xs 0) (argument xs 1) (argument xs 2) (argument xs 3) (argument xs 4) (argument xs 5)

-- The symbols by their names, in the order of the theory, each with what it gives.
abbrev pub meanings : List (List ℕ × (List ℤ → ℤ))
meanings =
    (codes "none", always (pos 0)) ∷
    (codes "j2000", always (pos 1)) ∷
    (codes "sun", always (pos 10)) ∷
    (codes "utc2et", by_one (λ x. x +ℤ pos 1)) ∷
    (codes "spkezp-pos", by_five (λ b e f a c. b -ℤ c)) ∷
    (codes "spkezp-lt", always (pos 0)) ∷
    (codes "pxform", always (pos 0)) ∷
    (codes "mxv", always (pos 0)) ∷
    (codes "vsub", always (pos 0)) ∷
    (codes "nearpt-point", by_four (λ v p q r. v +ℤ p)) ∷
    (codes "nearpt-alt", always (pos 0)) ∷
    (codes "reclat-radius", by_one (λ v. v)) ∷
    (codes "reclat-lon", by_one (λ v. v +ℤ pos 1)) ∷
    (codes "reclat-lat", by_one (λ v. v +ℤ pos 2)) ∷
    (codes "vnorm", by_one (λ v. v)) ∷
    (codes "time-of", by_one (λ e. e)) ∷
    (codes "utc-time", by_one (λ x. x +ℤ pos 1)) ∷
    (codes "body-place", by_two (λ b t. b +ℤ t)) ∷
    (codes "ellipsoid", by_six (λ f c t p q r. p)) ∷
    (codes "nearest", by_two (λ s x. x +ℤ s)) ∷
    (codes "coords", by_four (λ f c t x. x -ℤ c -ℤ t)) ∷
    (codes "longitude", by_four (λ f c t x. x -ℤ c -ℤ t +ℤ pos 1)) ∷
    (codes "latitude", by_four (λ f c t x. x -ℤ c -ℤ t +ℤ pos 2)) ∷ []

-- what a symbol gives at whole numbers, if it is there; else 0
abbrev pub given_by : Option (List ℕ × (List ℤ → ℤ)) → List ℤ → ℤ
given_by None xs = pos 0
given_by (Some m) xs = m.1 xs

-- a symbol gives at natural numbers what tells the whole number that it gives at those that they tell
abbrev pub example_world : Interpretation
example_world = record {
  dom = λ s n. true;
  fun = λ f ns. zigzag (given_by (slice_get meanings f.0) (map unzigzag ns));
  rel = λ r ns. false;
}
