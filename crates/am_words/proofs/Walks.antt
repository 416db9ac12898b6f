-- One step of `clap`'s walk over the words, for a command of variable slots.
use Rattle.std.proofs.Common.{◌≡◌, ◌∙◌, ◌+◌, ◌&&◌, ◌||◌, ℕ, Bool, cond, true, false, fold, suc, not, refl, ap, List, [], ◌∷◌, length, map, min, Option, Some, None}
use Rattle.std.specs.Str.{bytes_eq, chars}
use Rattle.std.specs.Prelude.{slice_get}
use Rattle.std.specs.List.{list_any}
use Rattle.std.proofs.lemmas.Slice.Eq.{bytes_eq-Decides}
use Rattle.clap.specs.Lexer.{usize_max, long_of, short_of}
use Rattle.clap.specs.Words.{Row, Rule, Shape, Text, Kinds}
use Rattle.clap.specs.Walk.{Held, Walk, arg_by_id, arg_by_index, arg_by_long, arg_by_short, has_row, with_default, positional_held, settled_rows, used, walked, finished, idle, option, settled}
use Rattle.clap.specs.Simple.{filled, with_index, new_shape}
use Rattle.clap.specs.Faults.{check_fault, default_fault, defaults_fault, positional_fault, settle_fault, turn_fault, use_fault, walk_fault}
use Rattle.clap.specs.Kinds.{or_else}
use Rattle.clap.specs.Takes.{is_given}
use Rattle.clap.specs.declared.error.kind.ErrorKind.TheVariants.{UnknownArgument, ArgumentConflict, InvalidValue, MissingRequiredArgument}
use Rattle.clap.proofs.OnLiterals.{clap_on_literals}
use Rattle.am_words.specs.Slots.{Slot, Slots, name, flag, id, told}
use Rattle.am_words.specs.Grammar.{is_dashes}

-- ---- the command when it is built

abbrev pub rule : Slot → Rule
rule (name i k) = with_index i (filled (told (name i k)))
rule (flag k) = with_index 0 (filled (told (flag k)))

abbrev pub rules : Slots → List Rule
rules ss = map rule ss

abbrev pub shape_at : Text → Slots → Shape
shape_at program ss = record (new_shape program) { rules = rules ss; disable_help_flag = true; disable_help_subcommand = true; is_built = true }

-- ---- what was used so far, the newest first

abbrev pub Use : Type 0
Use = Slot × Text

abbrev pub Uses : Type 0
Uses = List Use

abbrev pub rows_at : Uses → List Row
rows_at [] = []
rows_at (u ∷ us) = used (rule u.0) (u.1 ∷ []) (rows_at us)

abbrev pub waiting_value : Option Use → Option (Text × List Text)
waiting_value None = None
waiting_value (Some u) = Some (id u.0, u.1 ∷ [])

abbrev pub held_at : Uses → Option Use → Held
held_at us p = record { rows = rows_at us; pending = waiting_value p; skip = 0 }

abbrev pub push : Uses → Option Use → Uses
push us None = us
push us (Some u) = u ∷ us

-- ---- states

abbrev pub at : Bool → ℕ → Uses → Option Use → Walk
at t pos us p = record { held = held_at us p; waiting = idle; position = pos; is_trailing = t; stopped = None }

abbrev pub wait_at : Bool → Text → ℕ → Uses → Walk
wait_at t k pos us = record { held = record { rows = rows_at us; pending = Some (k, []); skip = 0 }; waiting = option k; position = pos; is_trailing = t; stopped = None }

-- no use of its id stands before it
abbrev pub Fresh : Uses → Option Use → Type 0
Fresh us None = Unit {0}
Fresh us (Some (name i k, v)) = has_row k (rows_at us) ≡ false
Fresh us (Some (flag k, v)) = has_row k (rows_at us) ≡ false

pub same : (k : Text) → bytes_eq k k ≡ true
same k = (bytes_eq-Decides k k).1 refl

-- some name that must be there isn't
abbrev pub misses : Slots → List Row → Bool
misses slots rows = list_any (λ a. a.required && not (is_given a.id rows)) (rules slots)

-- a name, behind `--` or by its look
pub data IsName (w : Text) : Bool → Type 0 where
  behind : IsName w true
  looks : is_dashes w ≡ false → long_of w ≡ None → short_of w ≡ None → IsName w false

module _ (ss : Slots) (program : Text) where
  abbrev pub R : List Rule
  R = rules ss

  abbrev pub S : Shape
  S = shape_at program ss

  -- the slot is found by its id
  abbrev pub Known : Slot → Type 0
  Known s = arg_by_id R (id s) ≡ Some (rule s)

  abbrev pub KnownUse : Option Use → Type 0
  KnownUse None = Unit {0}
  KnownUse (Some u) = Known u.0

  -- what is pending settles
  pub settle_rows : (us : Uses) (p : Option Use) → KnownUse p → settled_rows R (waiting_value p) (rows_at us) ≡ rows_at (push us p)
  settle_rows us None h = refl
  settle_rows us (Some (s, v)) h = rw h refl

  pub settle : (us : Uses) (p : Option Use) → KnownUse p → settled R (held_at us p) ≡ held_at (push us p) None
  settle us p h = rw (settle_rows us p h) refl

  pub settle_fine : (us : Uses) (p : Option Use) → KnownUse p → Fresh us p → settle_fault R false (held_at us p) ≡ []
  unfolding clap_on_literals
  settle_fine us None h f = refl
  settle_fine us (Some (name i k, v)) h f = rw (h, f) refl
  settle_fine us (Some (flag k, v)) h f = rw (h, f) refl

  -- `--`
  pub dashes-walk : (pos : ℕ) (us : Uses) (p : Option Use) (w : Text) → is_dashes w ≡ true → walked R [] (at false pos us p) w ≡ at true pos us p
  unfolding clap_on_literals
  dashes-walk pos us p w e = rw e refl

  pub dashes-fault : (pos : ℕ) (us : Uses) (p : Option Use) (w : Text) → is_dashes w ≡ true → turn_fault S [] (at false pos us p) w ≡ []
  unfolding clap_on_literals
  dashes-fault pos us p w e = rw e refl

  and_false : (b : Bool) → (b && false) ≡ false
  and_false true = refl
  and_false false = refl

  pub place-held : (us : Uses) (p : Option Use) (w : Text) (i : ℕ) (k : Text) → KnownUse p → positional_held R (rule (name i k)) w (held_at us p) ≡ held_at (push us p) (Some (name i k, w))
  place-held us None w i k h = refl
  place-held us (Some (s, v)) w i k h = rw (and_false (bytes_eq (id s) k), h) refl

  place-fault : (us : Uses) (p : Option Use) (i : ℕ) (k : Text) → positional_fault R false (rule (name i k)) (held_at us p) ≡ settle_fault R false (held_at us p)
  unfolding clap_on_literals
  place-fault us None i k = refl
  place-fault us (Some (s, v)) i k = rw (and_false (bytes_eq (id s) k)) refl

  -- the word comes to its place
  abbrev pub placed : Bool → ℕ → Held → Walk
  placed t pos h = record { held = h; waiting = idle; position = min (pos + 1) usize_max; is_trailing = t; stopped = None }

  pub name-walk : (t : Bool) (pos : ℕ) (us : Uses) (p : Option Use) (w : Text) (i : ℕ) (k : Text) → IsName w t → KnownUse p → arg_by_index R pos ≡ Some (rule (name i k))
      → walked R [] (at t pos us p) w ≡ at t (min (pos + 1) usize_max) (push us p) (Some (name i k, w))
  unfolding clap_on_literals
  name-walk true pos us p w i k behind h e = rw e (ap (placed true pos) (place-held us p w i k h))
  name-walk false pos us p w i k (looks d o s) h e = rw (d, o, s, e) (ap (placed false pos) (place-held us p w i k h))

  pub name-fault : (t : Bool) (pos : ℕ) (us : Uses) (p : Option Use) (w : Text) (i : ℕ) (k : Text) → IsName w t → arg_by_index R pos ≡ Some (rule (name i k))
      → turn_fault S [] (at t pos us p) w ≡ settle_fault R false (held_at us p)
  unfolding clap_on_literals
  name-fault true pos us p w i k behind e = rw e (place-fault us p i k)
  name-fault false pos us p w i k (looks d o n) e = rw (d, o, n, e) (place-fault us p i k)

  -- a name for which there is no place
  pub stray-fault : (t : Bool) (pos : ℕ) (us : Uses) (p : Option Use) (w : Text) → IsName w t → arg_by_index R pos ≡ None → turn_fault S [] (at t pos us p) w ≡ UnknownArgument ∷ []
  unfolding clap_on_literals
  stray-fault true pos us p w behind e = rw e refl
  stray-fault false pos us p w (looks d o n) e = rw (d, o, n, e) refl

  -- an option of its own
  pub alone-walk : (pos : ℕ) (us : Uses) (p : Option Use) (w n k : Text) → is_dashes w ≡ false → long_of w ≡ Some (n, None) → arg_by_long R n ≡ Some (rule (flag k)) → KnownUse p
      → walked R [] (at false pos us p) w ≡ wait_at false k pos (push us p)
  unfolding clap_on_literals
  alone-walk pos us p w n k d l b h = rw (d, l, b, settle_rows us p h) refl

  pub alone-fault : (pos : ℕ) (us : Uses) (p : Option Use) (w n k : Text) → is_dashes w ≡ false → long_of w ≡ Some (n, None) → arg_by_long R n ≡ Some (rule (flag k))
      → turn_fault S [] (at false pos us p) w ≡ or_else (settle_fault R false (held_at us p)) []
  unfolding clap_on_literals
  alone-fault pos us p w n k d l b = rw (d, l, b) refl

  -- an option with its value in the word
  pub with-walk : (pos : ℕ) (us : Uses) (p : Option Use) (w n k v : Text) → is_dashes w ≡ false → long_of w ≡ Some (n, Some v) → arg_by_long R n ≡ Some (rule (flag k)) → KnownUse p
      → walked R [] (at false pos us p) w ≡ at false pos ((flag k, v) ∷ push us p) None
  unfolding clap_on_literals
  with-walk pos us p w n k v d l b h = rw (d, l, b, settle_rows us p h) refl

  pub with-fault : (pos : ℕ) (us : Uses) (p : Option Use) (w n k v : Text) → is_dashes w ≡ false → long_of w ≡ Some (n, Some v) → arg_by_long R n ≡ Some (rule (flag k)) → KnownUse p
      → turn_fault S [] (at false pos us p) w ≡ or_else (or_else (settle_fault R false (held_at us p)) (use_fault false (rule (flag k)) (v ∷ []) (rows_at (push us p)))) []
  unfolding clap_on_literals
  with-fault pos us p w n k v d l b h = rw (d, l, b, settle_rows us p h) refl

  pub use_fine : (k v : Text) (us : Uses) → has_row k (rows_at us) ≡ false → use_fault false (rule (flag k)) (v ∷ []) (rows_at us) ≡ []
  unfolding clap_on_literals
  use_fine k v us e = rw e refl

  pub use_conflict : (k v : Text) (us : Uses) → has_row k (rows_at us) ≡ true → use_fault false (rule (flag k)) (v ∷ []) (rows_at us) ≡ ArgumentConflict ∷ []
  unfolding clap_on_literals
  use_conflict k v us e = rw e refl

  pub settle_conflict : (us : Uses) (k v : Text) → Known (flag k) → has_row k (rows_at us) ≡ true → settle_fault R false (held_at us (Some (flag k, v))) ≡ ArgumentConflict ∷ []
  unfolding clap_on_literals
  settle_conflict us k v h e = rw (h, e) refl

  -- what looks like an option and is none
  pub unknown-fault : (pos : ℕ) (us : Uses) (p : Option Use) (w n : Text) (v : Option Text) → is_dashes w ≡ false → long_of w ≡ Some (n, v) → arg_by_long R n ≡ None
      → turn_fault S [] (at false pos us p) w ≡ UnknownArgument ∷ []
  unfolding clap_on_literals
  unknown-fault pos us p w n v d l b = rw (d, l, b) refl

  no_short : (slots : Slots) (x : ℕ) → arg_by_short (rules slots) x ≡ None
  no_short [] x = refl
  no_short (name i k ∷ slots) x = no_short slots x
  no_short (flag k ∷ slots) x = no_short slots x

  pub short-fault : (pos : ℕ) (us : Uses) (p : Option Use) (w letters : Text) (x n : ℕ) → is_dashes w ≡ false → long_of w ≡ None → short_of w ≡ Some letters
      → length letters ≡ suc n → slice_get (chars letters) 0 ≡ Some x → turn_fault S [] (at false pos us p) w ≡ UnknownArgument ∷ []
  unfolding clap_on_literals
  short-fault pos us p w letters x n d l s len c = rw (d, l, s, len, c, no_short ss x) refl

  -- ---- where a value must come

  pub value-walk : (pos : ℕ) (us : Uses) (w k : Text) → Known (flag k) → is_dashes w ≡ false → long_of w ≡ None → short_of w ≡ None → walked R [] (wait_at false k pos us) w ≡ at false pos us (Some (flag k, w))
  unfolding clap_on_literals
  value-walk pos us w k h d l s = rw (d, l, s, h, same k) refl

  pub value-fault : (pos : ℕ) (us : Uses) (w k : Text) → is_dashes w ≡ false → long_of w ≡ None → short_of w ≡ None → turn_fault S [] (wait_at false k pos us) w ≡ []
  unfolding clap_on_literals
  value-fault pos us w k d l s = rw (d, l, s) refl

  -- any other word there
  pub bare-fault : (t : Bool) (pos : ℕ) (us : Uses) (k : Text) → Known (flag k) → settle_fault R false (wait_at t k pos us).held ≡ InvalidValue ∷ []
  unfolding clap_on_literals
  bare-fault t pos us k h = rw h refl

  pub bare_dashes-walk : (pos : ℕ) (us : Uses) (w k : Text) → is_dashes w ≡ true → walked R [] (wait_at false k pos us) w ≡ wait_at true k pos us
  unfolding clap_on_literals
  bare_dashes-walk pos us w k e = rw e refl

  pub bare_dashes-fault : (pos : ℕ) (us : Uses) (w k : Text) → is_dashes w ≡ true → turn_fault S [] (wait_at false k pos us) w ≡ []
  unfolding clap_on_literals
  bare_dashes-fault pos us w k e = rw e refl

  pub bare_alone : (pos : ℕ) (us : Uses) (w n k j : Text) → Known (flag k) → is_dashes w ≡ false → long_of w ≡ Some (n, None) → arg_by_long R n ≡ Some (rule (flag j))
      → turn_fault S [] (wait_at false k pos us) w ≡ InvalidValue ∷ []
  unfolding clap_on_literals
  bare_alone pos us w n k j h d l b = rw (d, l, b, h) refl

  pub bare_with : (pos : ℕ) (us : Uses) (w n k j v : Text) → Known (flag k) → is_dashes w ≡ false → long_of w ≡ Some (n, Some v) → arg_by_long R n ≡ Some (rule (flag j))
      → turn_fault S [] (wait_at false k pos us) w ≡ InvalidValue ∷ []
  unfolding clap_on_literals
  bare_with pos us w n k j v h d l b = rw (d, l, b, h) refl

  pub bare_unknown : (pos : ℕ) (us : Uses) (w n k : Text) (v : Option Text) → is_dashes w ≡ false → long_of w ≡ Some (n, v) → arg_by_long R n ≡ None
      → turn_fault S [] (wait_at false k pos us) w ≡ UnknownArgument ∷ []
  unfolding clap_on_literals
  bare_unknown pos us w n k v d l b = rw (d, l, b) refl

  pub bare_short : (pos : ℕ) (us : Uses) (w k letters : Text) (x n : ℕ) → is_dashes w ≡ false → long_of w ≡ None → short_of w ≡ Some letters
      → length letters ≡ suc n → slice_get (chars letters) 0 ≡ Some x → turn_fault S [] (wait_at false k pos us) w ≡ UnknownArgument ∷ []
  unfolding clap_on_literals
  bare_short pos us w k letters x n d l s len c = rw (d, l, s, len, c, no_short ss x) refl

  -- behind `--`, where a value is still wanted
  pub bare_place : (pos : ℕ) (us : Uses) (w k : Text) (i : ℕ) (j : Text) → Known (flag k) → arg_by_index R pos ≡ Some (rule (name i j)) → turn_fault S [] (wait_at true k pos us) w ≡ InvalidValue ∷ []
  unfolding clap_on_literals
  bare_place pos us w k i j h e = rw (e, and_false (bytes_eq k j), h) refl

  pub bare_stray : (pos : ℕ) (us : Uses) (w k : Text) → arg_by_index R pos ≡ None → turn_fault S [] (wait_at true k pos us) w ≡ UnknownArgument ∷ []
  unfolding clap_on_literals
  bare_stray pos us w k e = rw e refl

  -- ---- the end

  abbrev pub ends : Walk → Kinds
  ends w = or_else (settle_fault R false w.held) (or_else (defaults_fault (settled R w.held).rows R) (check_fault S (finished R w.held) false))

  abbrev pub total : Walk → List Text → Kinds
  total w ws = or_else (walk_fault S [] w ws) (ends (fold (walked R []) w ws))

  abbrev pub rows_of : Walk → List Text → List Row
  rows_of w ws = finished R (fold (walked R []) w ws).held

  no_default : (b : Bool) (k : Kinds) → cond (b || true) [] k ≡ []
  no_default true k = refl
  no_default false k = refl

  same_cond : (b : Bool) (rows : List Row) → cond b rows rows ≡ rows
  same_cond true rows = refl
  same_cond false rows = refl

  kept : (s : Slot) (rows : List Row) → with_default rows (rule s) ≡ rows
  kept (name i k) rows = same_cond (has_row k rows) rows
  kept (flag k) rows = same_cond (has_row k rows) rows

  pub all_kept : (slots : Slots) (rows : List Row) → fold with_default rows (rules slots) ≡ rows
  all_kept [] rows = refl
  all_kept (s ∷ slots) rows = ap (λ r. fold with_default r (rules slots)) (kept s rows) ∙ all_kept slots rows

  none_wrong : (s : Slot) (rows : List Row) → default_fault rows (rule s) ≡ []
  none_wrong (name i k) rows = no_default (has_row k rows) _
  none_wrong (flag k) rows = no_default (has_row k rows) _

  pub defaults_none : (slots : Slots) (rows : List Row) → defaults_fault rows (rules slots) ≡ []
  unfolding defaults_fault
  defaults_none [] rows = refl
  defaults_none (s ∷ slots) rows = rw (none_wrong s rows, kept s rows) (defaults_none slots rows)

  pub finished_is : (us : Uses) (p : Option Use) → KnownUse p → finished R (held_at us p) ≡ rows_at (push us p)
  finished_is us p h = rw (settle_rows us p h) (all_kept ss (rows_at (push us p)))

  pub ends_is : (t : Bool) (pos : ℕ) (us : Uses) (p : Option Use) → KnownUse p → Fresh us p → ends (at t pos us p) ≡ cond (misses ss (rows_at (push us p))) (MissingRequiredArgument ∷ []) []
  ends_is t pos us p h f = rw (settle_fine us p h f, defaults_none ss, finished_is us p h) refl
