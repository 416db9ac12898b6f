-- What the uses so far give each place and each option.
use Rattle.std.proofs.Common.{◌≡◌, ◌∙◌, ◌++◌, ◌&&◌, ◌+◌, ℕ, Bool, cond, true, false, not, suc, refl, sym, ap, subst, arith, List, [], ◌∷◌, length, map, min, Option, Some, None, true≢false}
use Rattle.std.specs.Str.{bytes_eq}
use Rattle.std.specs.Prelude.{nat_eq, slice_get, find}
use Rattle.std.specs.List.{list_all}
use Rattle.std.proofs.lemmas.Bool.Decides.{nat_tests}
use Rattle.clap.specs.Lexer.{usize_max}
use Rattle.clap.specs.Words.{Row, first_of}
use Rattle.am_words.specs.Grammar.{Text, value_given}
use Rattle.am_words.specs.Slots.{Arguments, Slot, flag, id, differs, all_differ, slots_from}
use Rattle.am_words.proofs.Walks.{Use, Uses, misses, rows_at, same}
use Rattle.am_words.proofs.Looks.{Tells, tells_first, tells_given, values}

-- the places have the names, in order
abbrev pub Fill : Uses → List Text → List Text → Type 0
Fill us [] [] = Unit {0}
Fill us [] (n ∷ ns) = ⊥
Fill us (k ∷ ps) [] = (values k us ≡ []) × Fill us ps []
Fill us (k ∷ ps) (n ∷ ns) = (values k us ≡ n ∷ []) × Fill us ps ns

-- the places that are left
abbrev pub left : List Text → List Text → List Text
left [] ns = []
left (k ∷ ps) [] = k ∷ ps
left (k ∷ ps) (n ∷ ns) = left ps ns

abbrev pub list_of : Option Text → List Text
list_of None = []
list_of (Some v) = v ∷ []

-- the options have their values
abbrev pub Given : Uses → List Text → List (Text × Text) → Type 0
Given us options g = (n k : Text) → find (λ j. bytes_eq j n) options ≡ Some k → values k us ≡ list_of (value_given k g)

-- ---- Bools

pub and_left : (a b : Bool) → (a && b) ≡ true → a ≡ true
and_left true b e = refl
and_left false b e = absurd (true≢false (sym e))

pub and_right : (a b : Bool) → (a && b) ≡ true → b ≡ true
and_right true b e = e
and_right false b e = absurd (true≢false (sym e))

pub not_is : (b : Bool) → not b ≡ true → b ≡ false
not_is true e = absurd (true≢false (sym e))
not_is false e = refl

-- ---- ids that differ

-- both ways
abbrev Apart : Text → Text → Type 0
Apart k j = (bytes_eq k j ≡ false) × (bytes_eq j k ≡ false)

apart_here : (k j : Text) (js : List Text) → differs k (j ∷ js) ≡ true → Apart k j
apart_here k j js e = (
  not_is (bytes_eq k j) (and_left (not (bytes_eq k j)) (not (bytes_eq j k) && differs k js) e),
  not_is (bytes_eq j k) (and_left (not (bytes_eq j k)) (differs k js) (and_right (not (bytes_eq k j)) (not (bytes_eq j k) && differs k js) e)),
)

apart_later : (k j : Text) (js : List Text) → differs k (j ∷ js) ≡ true → differs k js ≡ true
apart_later k j js e = and_right (not (bytes_eq j k)) (differs k js) (and_right (not (bytes_eq k j)) (not (bytes_eq j k) && differs k js) e)

-- the place that the next name takes has this id
abbrev pub Next : List Text → Text → Type 0
Next [] j = ⊥
Next (k ∷ ps) j = k ≡ j

-- it differs from what differs from all
apart_left : (k j : Text) (ps ns : List Text) → differs k ps ≡ true → Next (left ps ns) j → Apart k j
apart_left k j [] ns e h = absurd h
apart_left k j (i ∷ ps) [] e h = subst (λ t. Apart k t) h (apart_here k i ps e)
apart_left k j (i ∷ ps) (n ∷ ns) e h = apart_left k j ps ns (apart_later k i ps e) h

-- ---- a further use

-- it leaves the places that aren't its own
fill_other : (us : Uses) (u : Use) (ps ns : List Text) → differs (id u.0) ps ≡ true → Fill us ps ns → Fill (u ∷ us) ps ns
fill_other us u [] [] d h = tt
fill_other us u [] (n ∷ ns) d h = h
fill_other us u (k ∷ ps) [] d h = (rw ((apart_here (id u.0) k ps d).0) h.0, fill_other us u ps [] (apart_later (id u.0) k ps d) h.1)
fill_other us u (k ∷ ps) (n ∷ ns) d h = (rw ((apart_here (id u.0) k ps d).0) h.0, fill_other us u ps ns (apart_later (id u.0) k ps d) h.1)

-- a name goes to the next place
pub fill_name : (us : Uses) (s : Slot) (w : Text) (ps ns : List Text) → Next (left ps ns) (id s) → all_differ ps ≡ true → Fill us ps ns → Fill ((s, w) ∷ us) ps (ns ++ w ∷ [])
fill_name us s w [] ns h d f = absurd h
fill_name us s w (k ∷ ps) [] h d f = (
  rw (h, same (id s)) (ap (λ t. t ++ w ∷ []) (subst (λ t. values t us ≡ []) h f.0)),
  fill_other us (s, w) ps [] (subst (λ t. differs t ps ≡ true) h (and_left (differs k ps) (all_differ ps) d)) f.1,
)
fill_name us s w (k ∷ ps) (n ∷ ns) h d f = (
  rw ((apart_left k (id s) ps ns (and_left (differs k ps) (all_differ ps) d) h).1) f.0,
  fill_name us s w ps ns h (and_right (differs k ps) (all_differ ps) d) f.1,
)

pub left_more : (ps ns : List Text) (w : Text) → left ps (ns ++ w ∷ []) ≡ left (left ps ns) (w ∷ [])
left_more [] ns w = refl
left_more (k ∷ ps) [] w = refl
left_more (k ∷ ps) (n ∷ ns) w = left_more ps ns w

-- nothing is at the next place yet
pub fill_next : (us : Uses) (ps ps' ns : List Text) (k : Text) → left ps ns ≡ k ∷ ps' → Fill us ps ns → values k us ≡ []
fill_next us [] ps' ns k e f = let bad : [] ≡ k ∷ ps' = e in absurd cc
fill_next us (j ∷ ps) ps' [] k e f = let all : j ∷ ps ≡ k ∷ ps' = e in let i : j ≡ k = cc in rw (← i) f.0
fill_next us (j ∷ ps) ps' (n ∷ ns) k e f = fill_next us ps ps' ns k e f.1

-- an option of the command differs from the ids of the places
pub option_differs : (options : List Text) (js : List Text) (n k : Text) → list_all (λ j. differs j js) options ≡ true → find (λ j. bytes_eq j n) options ≡ Some k → differs k js ≡ true
option_differs [] js n k a e = let bad : None ≡ Some k = e in absurd cc
option_differs (o ∷ options) js n k a e = by_head (bytes_eq o n) e (option_differs options js n k (and_right (differs o js) (list_all (λ j. differs j js) options) a))
  where
    by_head : (b : Bool) → cond b (Some o) (find (λ j. bytes_eq j n) options) ≡ Some k → (find (λ j. bytes_eq j n) options ≡ Some k → differs k js ≡ true) → differs k js ≡ true
    by_head true f h = let all : Some o ≡ Some k = f in let i : o ≡ k = cc in rw (← i) (and_left (differs o js) (list_all (λ j. differs j js) options) a)
    by_head false f h = h f

-- an option that is used for the first time
pub fill_flag : (us : Uses) (k v : Text) (ps ns : List Text) → differs k ps ≡ true → Fill us ps ns → Fill ((flag k, v) ∷ us) ps ns
fill_flag us k v ps ns d h = fill_other us (flag k, v) ps ns d h

pub given_flag : (us : Uses) (k v : Text) (options : List Text) (g : List (Text × Text)) → values k us ≡ [] → Given us options g → Given ((flag k, v) ∷ us) options ((k, v) ∷ g)
given_flag us k v options g e h n j f = by_key (bytes_eq k j) (values k us) (values j us) (value_given j g) e (h n j f)
  where
    by_key : (b : Bool) (mine other : List Text) (o : Option Text) → mine ≡ [] → other ≡ list_of o → cond b (mine ++ v ∷ []) other ≡ list_of (cond b (Some v) o)
    by_key true mine other o e f = rw e refl
    by_key false mine other o e f = f

-- a name changes no option
pub given_name : (us : Uses) (s : Slot) (w : Text) (c : Arguments) (ns : List Text) (g : List (Text × Text)) → Next (left c.names ns) (id s) → list_all (λ k. differs k c.names) c.options ≡ true
    → Given us c.options g → Given ((s, w) ∷ us) c.options g
given_name us s w c ns g h a f n k e = rw ((apart_left k (id s) c.names ns (option_differs c.options c.names n k a e) h).1) (f n k e)

-- ---- the end

-- what the rows say of the places
abbrev pub TellsNames : List Row → List Text → List Text → Type 0
TellsNames rows [] [] = Unit {0}
TellsNames rows [] (n ∷ ns) = ⊥
TellsNames rows (k ∷ ps) [] = ⊥
TellsNames rows (k ∷ ps) (n ∷ ns) = (first_of k rows ≡ Some n) × TellsNames rows ps ns

none_left : (n : ℕ) → nat_eq (suc n) 0 ≡ false
none_left n = grind (arith, nat_tests)

one_more : (m n : ℕ) → nat_eq (suc m) (suc n) ≡ nat_eq m n
one_more m n = by_test (nat_eq m n) refl
  where
    by_test : (b : Bool) → nat_eq m n ≡ b → nat_eq (suc m) (suc n) ≡ b
    by_test true e = grind (arith, nat_tests)
    by_test false e = grind (arith, nat_tests)

pub tells_names : (us : Uses) (ps ns : List Text) → Tells us → nat_eq (length ps) (length ns) ≡ true → Fill us ps ns → TellsNames (rows_at us) ps ns
tells_names us [] [] t e f = tt
tells_names us [] (n ∷ ns) t e f = f
tells_names us (k ∷ ps) [] t e f = absurd (true≢false (sym e ∙ none_left (length ps)))
tells_names us (k ∷ ps) (n ∷ ns) t e f = (tells_first us k t ∙ ap (λ (vs : List Text). slice_get vs 0) f.0, tells_names us ps ns t (sym (one_more (length ps) (length ns)) ∙ e) f.1)

no_flag_misses : (options : List Text) (rows : List Row) → misses (map flag options) rows ≡ false
no_flag_misses [] rows = refl
no_flag_misses (k ∷ options) rows = no_flag_misses options rows

-- a name is missing where there are fewer than the command takes; there are never more
pub misses_is : (us : Uses) (i : ℕ) (ps : List Text) (options ns : List Text) → Tells us → Fill us ps ns → misses (slots_from i ps (map flag options)) (rows_at us) ≡ not (nat_eq (length ps) (length ns))
misses_is us i [] options [] t f = no_flag_misses options (rows_at us)
misses_is us i [] options (n ∷ ns) t f = absurd f
misses_is us i (k ∷ ps) options [] t f = rw (tells_given us k t, f.0) (ap not (sym (none_left (length ps))))
misses_is us i (k ∷ ps) options (n ∷ ns) t f = rw (tells_given us k t, f.0) (misses_is us (min (i + 1) usize_max) ps options ns t f.1 ∙ ap not (sym (one_more (length ps) (length ns))))

-- where no place is left, they are as many as the command takes
pub full_is : (us : Uses) (ps ns : List Text) → Fill us ps ns → left ps ns ≡ [] → length ps ≡ length ns
full_is us [] [] f e = refl
full_is us [] (n ∷ ns) f e = absurd f
full_is us (k ∷ ps) [] f e = let bad : k ∷ ps ≡ [] = e in absurd cc
full_is us (k ∷ ps) (n ∷ ns) f e = ap suc (full_is us ps ns f.1 e)
