-- What stands under an id in the rows.
use Rattle.std.proofs.Common.{◌≡◌, ◌∙◌, ◌++◌, ◌||◌, Bool, cond, true, false, refl, sym, ap, List, [], ◌∷◌, Option, Some, None, true≢false}
use Rattle.std.specs.Str.{bytes_eq}
use Rattle.std.specs.Prelude.{is_some, slice_get, find, option_and_then}
use Rattle.std.proofs.lemmas.Slice.Eq.{bytes_eq-Decides}
use Rattle.clap.specs.Words.{Row, Text, first_of}
use Rattle.clap.specs.Walk.{has_row, stronger, with_values, without}
use Rattle.clap.specs.Takes.{is_given}
use Rattle.clap.specs.Facts.{explicit_source}
use Rattle.std.specs.Option.{option_map_or}
use Rattle.clap.specs.declared.parser.matches.ValueSource.{ValueSource}
use Rattle.clap.specs.declared.parser.matches.ValueSource.TheVariants.{CommandLine, DefaultValue}
use Rattle.clap.specs.declared.builder.value_parser.Reading.{Reading}
use Rattle.am_words.specs.Slots.{Slot, name, flag, id}
use Rattle.am_words.proofs.Walks.{Fresh, Uses, rows_at}

abbrev pub Seen : Type 0
Seen = List Text × Option ValueSource

abbrev pub seen_of : Row → Seen
seen_of r = (r.values, r.source)

-- the values under an id, with their source
abbrev pub look : Text → List Row → Option Seen
look i [] = None
look i (r ∷ rs) = cond (bytes_eq r.id i) (Some (seen_of r)) (look i rs)

abbrev pub old_values : Option Seen → List Text
old_values None = []
old_values (Some s) = s.0

stronger_line : (s : Option ValueSource) → stronger s CommandLine ≡ CommandLine
stronger_line None = refl
stronger_line (Some CommandLine) = refl
stronger_line (Some DefaultValue) = refl

-- a use adds its value under its id
look_more : (i k : Text) (how : Reading) (v : Text) (rows : List Row)
    → look i (with_values k how CommandLine (v ∷ []) rows) ≡ cond (bytes_eq k i) (Some (old_values (look k rows) ++ v ∷ [], Some CommandLine)) (look i rows)
look_more i k how v [] = refl
look_more i k how v (r ∷ rs) = by_head (bytes_eq r.id k) refl (bytes_eq r.id i) refl (bytes_eq k i) refl (look_more i k how v rs)
  where
    by_head : (b : Bool) → bytes_eq r.id k ≡ b → (c : Bool) → bytes_eq r.id i ≡ c → (d : Bool) → bytes_eq k i ≡ d
        → look i (with_values k how CommandLine (v ∷ []) rs) ≡ cond (bytes_eq k i) (Some (old_values (look k rs) ++ v ∷ [], Some CommandLine)) (look i rs)
        → look i (with_values k how CommandLine (v ∷ []) (r ∷ rs)) ≡ cond (bytes_eq k i) (Some (old_values (look k (r ∷ rs)) ++ v ∷ [], Some CommandLine)) (look i (r ∷ rs))
    by_head true e true f true g h = rw (e, f, g, stronger_line r.source) refl
    by_head true e false f false g h = rw (e, f, g) refl
    by_head true e true f false g h = let same : r.id ≡ k = (bytes_eq-Decides r.id k).0 e in let bad : bytes_eq k i ≡ true = rw (← same) f in absurd (true≢false (sym bad ∙ g))
    by_head true e false f true g h = let same : r.id ≡ k = (bytes_eq-Decides r.id k).0 e in let bad : bytes_eq r.id i ≡ true = rw same g in absurd (true≢false (sym bad ∙ f))
    by_head false e true f true g h =
        let same : r.id ≡ i = (bytes_eq-Decides r.id i).0 f in let other : k ≡ i = (bytes_eq-Decides k i).0 g in
        absurd (true≢false (sym ((bytes_eq-Decides r.id k).1 (same ∙ sym other)) ∙ e))
    by_head false e true f false g h = rw (e, f, g) refl
    by_head false e false f d g h = rw (e, f) h

has_look : (i : Text) (rows : List Row) → has_row i rows ≡ is_some (look i rows)
has_look i [] = refl
has_look i (r ∷ rs) = by_head (bytes_eq r.id i) (has_look i rs)
  where
    by_head : (b : Bool) → has_row i rs ≡ is_some (look i rs) → (b || has_row i rs) ≡ is_some (cond b (Some (seen_of r)) (look i rs))
    by_head true e = refl
    by_head false e = e

pub first_look : (i : Text) (rows : List Row) → first_of i rows ≡ option_and_then (λ (s : Seen). slice_get s.0 0) (look i rows)
first_look i [] = refl
first_look i (r ∷ rs) = by_head (bytes_eq r.id i) (first_look i rs)
  where
    by_head : (b : Bool) → first_of i rs ≡ option_and_then (λ (s : Seen). slice_get s.0 0) (look i rs)
        → option_and_then (λ (x : Row). slice_get x.values 0) (cond b (Some r) (find (λ (x : Row). bytes_eq x.id i) rs)) ≡ option_and_then (λ (s : Seen). slice_get s.0 0) (cond b (Some (seen_of r)) (look i rs))
    by_head true e = refl
    by_head false e = e

pub given_look : (i : Text) (rows : List Row) → is_given i rows ≡ option_map_or (λ (s : Seen). explicit_source s.1) (look i rows) false
given_look i [] = refl
given_look i (r ∷ rs) = by_head (bytes_eq r.id i) (given_look i rs)
  where
    by_head : (b : Bool) → is_given i rs ≡ option_map_or (λ (s : Seen). explicit_source s.1) (look i rs) false
        → option_map_or (λ (x : Row). explicit_source x.source) (cond b (Some r) (find (λ (x : Row). bytes_eq x.id i) rs)) false ≡ option_map_or (λ (s : Seen). explicit_source s.1) (cond b (Some (seen_of r)) (look i rs)) false
    by_head true e = refl
    by_head false e = e

without_fresh : (i : Text) (rows : List Row) → has_row i rows ≡ false → without i rows ≡ rows
without_fresh i [] e = refl
without_fresh i (r ∷ rs) e = by_head (bytes_eq r.id i) e (without_fresh i rs)
  where
    by_head : (b : Bool) → (b || has_row i rs) ≡ false → (has_row i rs ≡ false → without i rs ≡ rs) → cond b rs (r ∷ without i rs) ≡ r ∷ rs
    by_head true e h = absurd (true≢false e)
    by_head false e h = ap (λ t. r ∷ t) (h e)

-- ---- the values of the uses

abbrev pub values : Text → Uses → List Text
values i [] = []
values i (u ∷ us) = cond (bytes_eq (id u.0) i) (values (id u.0) us ++ u.1 ∷ []) (values i us)

abbrev pub as_look : List Text → Option Seen
as_look [] = None
as_look (v ∷ vs) = Some (v ∷ vs, Some CommandLine)

-- the rows have the values of the uses
abbrev pub Tells : Uses → Type 0
Tells us = (i : Text) → look i (rows_at us) ≡ as_look (values i us)

old_as : (vs : List Text) (o : Option Seen) → o ≡ as_look vs → old_values o ≡ vs
old_as [] o e = rw e refl
old_as (v ∷ vs) o e = rw e refl

as_more : (vs : List Text) (v : Text) → Some (vs ++ v ∷ [], Some CommandLine) ≡ as_look (vs ++ v ∷ [])
as_more [] v = refl
as_more (x ∷ vs) v = refl

joined : (b : Bool) (v : Text) (o n : Option Seen) (mine other : List Text) → o ≡ as_look mine → n ≡ as_look other
    → cond b (Some (old_values o ++ v ∷ [], Some CommandLine)) n ≡ as_look (cond b (mine ++ v ∷ []) other)
joined true v o n mine other e f = rw (old_as mine o e) (as_more mine v)
joined false v o n mine other e f = f

pub tells_push : (us : Uses) (s : Slot) (v : Text) → Tells us → Fresh us (Some (s, v)) → Tells ((s, v) ∷ us)
tells_push us (name i k) v h f j = rw (without_fresh k (rows_at us) f) (look_more j k _ v (rows_at us) ∙ joined (bytes_eq k j) v _ _ _ _ (h k) (h j))
tells_push us (flag k) v h f j = rw (without_fresh k (rows_at us) f) (look_more j k _ v (rows_at us) ∙ joined (bytes_eq k j) v _ _ _ _ (h k) (h j))

-- what of them the rows say
pub tells_first : (us : Uses) (i : Text) → Tells us → first_of i (rows_at us) ≡ slice_get (values i us) 0
tells_first us i h = first_look i (rows_at us) ∙ ap (option_and_then (λ (s : Seen). slice_get s.0 0)) (h i) ∙ by_values (values i us)
  where
    by_values : (vs : List Text) → option_and_then (λ (s : Seen). slice_get s.0 0) (as_look vs) ≡ slice_get vs 0
    by_values [] = refl
    by_values (v ∷ vs) = refl

abbrev pub has_some : List Text → Bool
has_some [] = false
has_some (v ∷ vs) = true

pub tells_given : (us : Uses) (i : Text) → Tells us → is_given i (rows_at us) ≡ has_some (values i us)
tells_given us i h = given_look i (rows_at us) ∙ ap (λ (o : Option Seen). option_map_or (λ (s : Seen). explicit_source s.1) o false) (h i) ∙ by_values (values i us)
  where
    by_values : (vs : List Text) → option_map_or (λ (s : Seen). explicit_source s.1) (as_look vs) false ≡ has_some vs
    by_values [] = refl
    by_values (v ∷ vs) = refl

pub tells_has : (us : Uses) (i : Text) → Tells us → has_row i (rows_at us) ≡ has_some (values i us)
tells_has us i h = has_look i (rows_at us) ∙ ap is_some (h i) ∙ by_values (values i us)
  where
    by_values : (vs : List Text) → is_some (as_look vs) ≡ has_some vs
    by_values [] = refl
    by_values (v ∷ vs) = refl
