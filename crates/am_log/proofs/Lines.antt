-- The lines of a text, and the text of lines.
use Rattle.std.proofs.Common.{◌≡◌, ◌<◌, ◌≤◌, ℕ, zero, suc, Bool, true, false, Option, Some, None, List, [], ◌∷◌, ◌++◌, length, take, drop, refl, sym, ap, ◌∙◌, arith, subst, append_assoc, inl, inr}
use Rattle.std.specs.Prelude.{◌==◌, not, codes, if◌then◌else◌}
use Rattle.std.specs.List.{list_all, starts_with}
use Rattle.std.specs.Str.{bytes_eq}
use Rattle.std.proofs.lemmas.Bool.{and_parts, cases_lt}
use Rattle.std.proofs.lemmas.Slice.Eq.{bytes_eq-Decides}
use Rattle.std.proofs.lemmas.List.Folds.{list_all-append}
use Rattle.am_log.specs.Cut.{longest, split_at, cut_within, cut, width, pieced_together, further_lines, piece_lines, wrapped}
use Rattle.am_log.specs.Groups.{ends_group, groups, is_inside, Wraps}
use Rattle.am_log.specs.Unwrapped.{unwrapped, unwrapped_text}

inside_not : (b : ℕ) → is_inside b ≡ true → (b == 10) ≡ false
inside_not b h = elim (b == 10) as (λ t. not t ≡ true → t ≡ false) [ true ↦ λ k. sym k | false ↦ λ k. refl ] h

-- ---- a line's text is unwrapped
unwrap_line : (p rest : List ℕ) → list_all is_inside p ≡ true → unwrapped zero (p ++ 10 ∷ rest) ≡ p ++ unwrapped 2 rest
unfolding unwrapped
unwrap_line [] rest h = refl
unwrap_line (b ∷ bs) rest h =
    let s = and_parts (is_inside b) (list_all is_inside bs) h in
    rw (inside_not b s.0, unwrap_line bs rest s.1) refl

abbrev pub AllInside : List (List ℕ) → Type 0
AllInside ps = list_all (list_all is_inside) ps ≡ true

unwrap_further : (ps : List (List ℕ)) → AllInside ps → unwrapped 2 (further_lines ps) ≡ pieced_together ps
unfolding unwrapped
unwrap_further [] h = refl
unwrap_further (p ∷ ps) h =
    let s = and_parts (list_all is_inside p) (list_all (list_all is_inside) ps) h in
    unwrap_line p (further_lines ps) s.0 ∙ ap (λ (z : List ℕ). p ++ z) (unwrap_further ps s.1)

unwrap_pieces : (ps : List (List ℕ)) → AllInside ps → unwrapped 2 (piece_lines ps) ≡ pieced_together ps
unfolding unwrapped
unwrap_pieces [] h = refl
unwrap_pieces (p ∷ ps) h =
    let s = and_parts (list_all is_inside p) (list_all (list_all is_inside) ps) h in
    unwrap_line p (further_lines ps) s.0 ∙ ap (λ (z : List ℕ). p ++ z) (unwrap_further ps s.1)

pieces_inside : (ps : List (List ℕ)) → list_all is_inside (pieced_together ps) ≡ true → AllInside ps
pieces_inside [] h = refl
pieces_inside (p ∷ ps) h =
    let s = and_parts (list_all is_inside p) (list_all is_inside (pieced_together ps)) (sym (list_all-append is_inside p (pieced_together ps)) ∙ h) in
    rw (s.0, pieces_inside ps s.1) refl

unwrap_step : (t : Bool) (b : ℕ) (xs ys : List ℕ) → (b == 10) ≡ t → list_all is_inside xs ≡ true → list_all is_inside ys ≡ true → list_all is_inside (if t then xs else b ∷ ys) ≡ true
unwrap_step true b xs ys e h k = h
unwrap_step false b xs ys e h k = rw (e, k) refl

unwrapped_inside : (k : ℕ) (bs : List ℕ) → list_all is_inside (unwrapped k bs) ≡ true
unfolding unwrapped
unwrapped_inside k [] = refl
unwrapped_inside (suc k) (b ∷ bs) = unwrapped_inside k bs
unwrapped_inside zero (b ∷ bs) = unwrap_step (b == 10) b (unwrapped 2 bs) (unwrapped zero bs) refl (unwrapped_inside 2 bs) (unwrapped_inside zero bs)

-- ---- the pieces of one line are in one line
take_inside : (n : ℕ) (t : List ℕ) → list_all is_inside t ≡ true → list_all is_inside (take n t) ≡ true
take_inside zero t h = refl
take_inside (suc n) [] h = refl
take_inside (suc n) (b ∷ bs) h = let s = and_parts (is_inside b) (list_all is_inside bs) h in rw (s.0, take_inside n bs s.1) refl

drop_inside : (n : ℕ) (t : List ℕ) → list_all is_inside t ≡ true → list_all is_inside (drop n t) ≡ true
drop_inside zero t h = h
drop_inside (suc n) [] h = refl
drop_inside (suc n) (b ∷ bs) h = drop_inside n bs (and_parts (is_inside b) (list_all is_inside bs) h).1

split_inside : (n : ℕ) (t : List ℕ) (behind : List ℕ → List (List ℕ)) → list_all is_inside t ≡ true → AllInside (behind (drop n t)) → AllInside (split_at n t behind)
split_inside zero t behind h k = refl
split_inside (suc n) t behind h k = let e : list_all is_inside (take (suc n) t) ≡ true = take_inside (suc n) t h in rw (e, k) refl

within_inside : (w f : ℕ) (t : List ℕ) → list_all is_inside t ≡ true → AllInside (cut_within w f t)
unfolding cut_within
within_inside w zero t h = refl
within_inside w (suc f) t h = split_inside (longest w t) t (cut_within w f) h (within_inside w f (drop (longest w t) t) (drop_inside (longest w t) t h))

pub cut_inside : (w : ℕ) (t : List ℕ) → list_all is_inside t ≡ true → AllInside (cut w t)
unfolding cut
cut_inside w t h = within_inside w (length t) t h

unwrap_wrapped : (t : List ℕ) → list_all is_inside t ≡ true → unwrapped 2 (wrapped t) ≡ pieced_together (cut width t)
unwrap_wrapped t h = unwrap_pieces (cut width t) (cut_inside width t h)

-- ---- the text of a group
equal_bytes : (a b : List ℕ) → bytes_eq a b ≡ true → a ≡ b
equal_bytes a b e = grind (arith, bytes_eq-Decides a b)

same_bytes : (a b : List ℕ) → a ≡ b → bytes_eq a b ≡ true
same_bytes a b e = grind (arith, bytes_eq-Decides a b)

abbrev pub a_text : List ℕ → Option (List ℕ)
a_text t = Some t

wraps_by : (g t : List ℕ) (b : Bool) → bytes_eq (wrapped (unwrapped 2 g)) g ≡ b → (if b then Some (unwrapped 2 g) else None) ≡ a_text t → Wraps g t
wraps_by g t true e h =
    let k : unwrapped 2 g ≡ t = cc in
    let whole : wrapped (unwrapped 2 g) ≡ g = equal_bytes (wrapped (unwrapped 2 g)) g e in
    let inside = unwrapped_inside 2 g in
    subst (Wraps g) k (record { inside = inside; whole = sym (unwrap_wrapped (unwrapped 2 g) inside) ∙ ap (unwrapped 2) whole; lines_are = sym whole })
wraps_by g t false e h = absurd cc

-- a text that was found is the group's
pub text_found : (g t : List ℕ) → unwrapped_text g ≡ a_text t → Wraps g t
unfolding unwrapped_text
text_found g t e = wraps_by g t (bytes_eq (wrapped (unwrapped 2 g)) g) refl e

-- and the text of a group is found
pub text_again : (g t : List ℕ) → Wraps g t → unwrapped_text g ≡ a_text t
unfolding unwrapped_text
text_again g t w =
    let u : unwrapped 2 g ≡ t = ap (unwrapped 2) w.lines_are ∙ unwrap_wrapped t w.inside ∙ w.whole in
    let e : bytes_eq (wrapped (unwrapped 2 g)) g ≡ true = same_bytes (wrapped (unwrapped 2 g)) g (ap wrapped u ∙ sym w.lines_are) in
    rw (e, u) refl

-- ---- groups
no_end : (b : ℕ) (rest : List ℕ) → is_inside b ≡ true → ends_group b rest ≡ false
no_end b rest h = rw (inside_not b h) refl

pub line_ends : (p rest : List ℕ) → list_all is_inside p ≡ true → starts_with ◌==◌ rest (codes "C+") ≡ false → groups (p ++ 10 ∷ rest) ≡ (p ++ 10 ∷ []) ∷ groups rest
unfolding groups
line_ends [] rest h k = rw k refl
line_ends (b ∷ bs) rest h k =
    let s = and_parts (is_inside b) (list_all is_inside bs) h in
    rw (no_end b (bs ++ 10 ∷ rest) s.0, line_ends bs rest s.1 k) refl

line_goes_on : (p rest h : List ℕ) (hs : List (List ℕ)) → list_all is_inside p ≡ true → starts_with ◌==◌ rest (codes "C+") ≡ true → groups rest ≡ h ∷ hs → groups (p ++ 10 ∷ rest) ≡ (p ++ 10 ∷ h) ∷ hs
unfolding groups
line_goes_on [] rest h hs i k e = rw (k, e) refl
line_goes_on (b ∷ bs) rest h hs i k e =
    let s = and_parts (is_inside b) (list_all is_inside bs) i in
    rw (no_end b (bs ++ 10 ∷ rest) s.0, line_goes_on bs rest h hs s.1 k e) refl

further_append : (p : List ℕ) (ps : List (List ℕ)) (rest : List ℕ) → further_lines (p ∷ ps) ++ rest ≡ codes "C+" ++ (p ++ 10 ∷ (further_lines ps ++ rest))
further_append p ps rest = ap (λ (z : List ℕ). codes "C+" ++ z) (append_assoc p (10 ∷ further_lines ps) rest)

lines_group : (q : List ℕ) (ps : List (List ℕ)) (rest : List ℕ) → list_all is_inside q ≡ true → AllInside ps → starts_with ◌==◌ rest (codes "C+") ≡ false → groups (q ++ 10 ∷ (further_lines ps ++ rest)) ≡ (q ++ 10 ∷ further_lines ps) ∷ groups rest
lines_group q [] rest h i k = line_ends q rest h k
lines_group q (p ∷ ps) rest h i k =
    let s = and_parts (list_all is_inside p) (list_all (list_all is_inside) ps) i in
    let below : groups (codes "C+" ++ (p ++ 10 ∷ (further_lines ps ++ rest))) ≡ (codes "C+" ++ (p ++ 10 ∷ further_lines ps)) ∷ groups rest = lines_group (codes "C+" ++ p) ps rest s.0 s.1 k in
    ap (λ (z : List ℕ). groups (q ++ 10 ∷ z)) (further_append p ps rest)
    ∙ line_goes_on q (codes "C+" ++ (p ++ 10 ∷ (further_lines ps ++ rest))) (codes "C+" ++ (p ++ 10 ∷ further_lines ps)) (groups rest) h refl below

pieces_group : (ps : List (List ℕ)) (rest : List ℕ) → 0 < length ps → AllInside ps → starts_with ◌==◌ rest (codes "C+") ≡ false → groups (piece_lines ps ++ rest) ≡ piece_lines ps ∷ groups rest
pieces_group [] rest l i k = absurd (omega arith)
pieces_group (p ∷ ps) rest l i k =
    let s = and_parts (list_all is_inside p) (list_all (list_all is_inside) ps) i in
    ap (λ (z : List ℕ). groups (codes "C " ++ z)) (append_assoc p (10 ∷ further_lines ps) rest)
    ∙ lines_group (codes "C " ++ p) ps rest s.0 s.1 k

joined_none : (ps : List (List ℕ)) → length ps ≡ 0 → pieced_together ps ≡ []
joined_none [] h = refl
joined_none (p ∷ ps) h = absurd (omega (arith, h))

some_pieces : (t : List ℕ) → 0 < length t → pieced_together (cut width t) ≡ t → 0 < length (cut width t)
some_pieces t l e = elim (cases_lt 0 (length (cut width t))) [
  | inl h ↦ h
  | inr h ↦ absurd (let z : [] ≡ t = sym (joined_none (cut width t) (omega (arith, h))) ∙ e in let y = ap length z in omega (arith, y, l))
]

-- the lines of a text are the first group of what they begin
pub wrapped_group : (t rest : List ℕ) → 0 < length t → list_all is_inside t ≡ true → pieced_together (cut width t) ≡ t → starts_with ◌==◌ rest (codes "C+") ≡ false → groups (wrapped t ++ rest) ≡ wrapped t ∷ groups rest
wrapped_group t rest l h e k = pieces_group (cut width t) rest (some_pieces t l e) (cut_inside width t h) k

-- a group is as long as its text at least
unwrapped_step : (t : Bool) (b : ℕ) (xs ys : List ℕ) (m : ℕ) → length xs ≤ m → length ys ≤ m → length (if t then xs else b ∷ ys) ≤ suc m
unwrapped_step true b xs ys m h k = omega (arith, h)
unwrapped_step false b xs ys m h k = omega (arith, k)

unwrapped_length : (k : ℕ) (bs : List ℕ) → length (unwrapped k bs) ≤ length bs
unfolding unwrapped
unwrapped_length k [] = omega arith
unwrapped_length (suc k) (b ∷ bs) = let h = unwrapped_length k bs in omega (arith, h)
unwrapped_length zero (b ∷ bs) = unwrapped_step (b == 10) b (unwrapped 2 bs) (unwrapped zero bs) (length bs) (unwrapped_length 2 bs) (unwrapped_length zero bs)

short_by : (g t : List ℕ) (b : Bool) → (if b then Some (unwrapped 2 g) else None) ≡ a_text t → length t ≤ length g
short_by g t true e = let k : unwrapped 2 g ≡ t = cc in let h = unwrapped_length 2 g in let y = ap length k in omega (arith, h, y)
short_by g t false e = absurd cc

pub unwrapped_short : (g t : List ℕ) → unwrapped_text g ≡ a_text t → length t ≤ length g
unfolding unwrapped_text
unwrapped_short g t e = short_by g t (bytes_eq (wrapped (unwrapped 2 g)) g) e
