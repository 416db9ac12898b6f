-- What `clap` makes of the words of a command is their reading.
use Rattle.std.proofs.Common.{◌≡◌, ◌∙◌, ◌++◌, ◌||◌, ◌+◌, ℕ, Bool, cond, true, false, not, refl, sym, ap, subst, arith, fold, List, [], ◌∷◌, length, drop, map, min, Option, Some, None, nat_lt, append-nil, length-append}
use Rattle.std.specs.Str.{bytes_eq, IsUtf8}
use Rattle.std.specs.Prelude.{is_some, nat_eq, slice_get, find, option_map}
use Rattle.std.specs.List.{list_all}
use Rattle.std.proofs.lemmas.Bool.Decides.{nat_tests}
use Rattle.clap.specs.Lexer.{usize_max}
use Rattle.clap.specs.Words.{Kinds, Row, Rule, Shape, fault_of, first_of, matches_of}
use Rattle.clap.specs.Walk.{Walk, walk, nothing_held, arg_by_index, arg_by_long, has_row, walked}
use Rattle.clap.specs.Faults.{entered_fault, level_fault, settle_fault, turn_fault, use_fault, walk_fault}
use Rattle.clap.specs.Simple.{entered, filled_from}
use Rattle.clap.specs.Kinds.{or_else}
use Rattle.clap.specs.declared.error.kind.ErrorKind.{ErrorKind}
use Rattle.clap.specs.declared.error.kind.ErrorKind.TheVariants.{UnknownArgument, ArgumentConflict, InvalidValue, MissingRequiredArgument}
use Rattle.am_words.specs.Grammar.{Text, Found, OptionWord, alone, with, unknown, Mode, plain, value, by_option, counted, value_given, is_dashes, is_option, option_word}
use Rattle.am_words.proofs.Forwards.{read, read_by}
use Rattle.am_words.specs.Slots.{Arguments, app_by, Slot, Slots, name, flag, told, id, differs, all_differ, command_shape, slots, slots_from}
use Rattle.am_words.proofs.Walks as walks
use Rattle.am_words.proofs.Walks.{Fresh, IsName, behind, looks, Use, Uses, at, held_at, misses, push, rows_at, rule, rules, shape_at, wait_at}
use Rattle.am_words.proofs.Looks.{Tells, has_some, tells_first, tells_has, tells_push, values}
use Rattle.am_words.proofs.Sorts.{w_dashes, w_alone, w_with, w_unknown, w_short, w_name, word_of}
use Rattle.am_words.proofs.Fills.{Fill, Given, Next, TellsNames, fill_flag, fill_name, fill_next, full_is, given_flag, given_name, left, left_more, list_of, misses_is, option_differs, tells_names}

-- what the rows say
pub record Told (c : Arguments) (f : Found) (rows : List Row) : Type 0 where
  pub names : TellsNames rows c.names f.names
  pub options : (n k : Text) → find (λ j. bytes_eq j n) c.options ≡ Some k → first_of k rows ≡ value_given k f.given

abbrev pub Agrees : Arguments → Option Found → Kinds → List Row → Type 0
Agrees c None kinds rows = kinds ≡ [] → ⊥
Agrees c (Some f) kinds rows = (kinds ≡ []) × Told c f rows

no_kinds : (k : ErrorKind) (ks : Kinds) → (k ∷ ks) ≡ [] → ⊥
no_kinds k ks e = cc

agrees_none : (c : Arguments) (o : Option Found) (k : ErrorKind) (ks : Kinds) (rows : List Row) → o ≡ None → Agrees c o (k ∷ ks) rows
agrees_none c None k ks rows e = no_kinds k ks
agrees_none c (Some f) k ks rows e = cc

abbrev pub Utf8s : List Text → Type 0
Utf8s [] = Unit {0}
Utf8s (w ∷ ws) = IsUtf8 w × Utf8s ws

-- the name of each option is found
long_is : (options : List Text) (n : Text) → arg_by_long (rules (map flag options)) n ≡ option_map (λ k. rule (flag k)) (find (λ j. bytes_eq j n) options)
long_is [] n = refl
long_is (k ∷ options) n = by_head (bytes_eq k n) (long_is options n)
  where
    by_head : (b : Bool) → arg_by_long (rules (map flag options)) n ≡ option_map (λ j. rule (flag j)) (find (λ j. bytes_eq j n) options)
        → cond (b || false) (Some (rule (flag k))) (arg_by_long (rules (map flag options)) n) ≡ option_map (λ j. rule (flag j)) (cond b (Some k) (find (λ j. bytes_eq j n) options))
    by_head true e = refl
    by_head false e = e

places_long : (i : ℕ) (ps : List Text) (after : Slots) (n : Text) → arg_by_long (rules (slots_from i ps after)) n ≡ arg_by_long (rules after) n
places_long i [] after n = refl
places_long i (k ∷ ps) after n = places_long (min (i + 1) usize_max) ps after n

module _ (c : Arguments) (program : Text) where
  abbrev ss : Slots
  ss = slots c

  abbrev R : List Rule
  R = rules ss

  abbrev S : Shape
  S = shape_at program ss

  abbrev Known : Slot → Type 0
  Known s = walks.Known ss program s

  abbrev KnownUse : Option Use → Type 0
  KnownUse p = walks.KnownUse ss program p

  abbrev total : Walk → List Text → Kinds
  total w ws = walks.total ss program w ws

  abbrev rows_of : Walk → List Text → List Row
  rows_of w ws = walks.rows_of ss program w ws

  -- the places are found by their numbers
  abbrev pub At : ℕ → List Text → Type 0
  At pos [] = arg_by_index R pos ≡ None
  At pos (k ∷ ps) = (arg_by_index R pos ≡ Some (rule (name pos k))) × Known (name pos k) × At (min (pos + 1) usize_max) ps

  abbrev pub KnownOptions : List Text → Type 0
  KnownOptions [] = Unit {0}
  KnownOptions (k ∷ ks) = Known (flag k) × KnownOptions ks

  known_option : (options : List Text) (n k : Text) → KnownOptions options → find (λ j. bytes_eq j n) options ≡ Some k → Known (flag k)
  known_option [] n k h e = let bad : None ≡ Some k = e in absurd cc
  known_option (o ∷ options) n k h e = by_head (bytes_eq o n) e (known_option options n k h.1)
    where
      by_head : (b : Bool) → cond b (Some o) (find (λ j. bytes_eq j n) options) ≡ Some k → (find (λ j. bytes_eq j n) options ≡ Some k → Known (flag k)) → Known (flag k)
      by_head true f g = let all : Some o ≡ Some k = f in let i : o ≡ k = cc in subst (λ t. Known (flag t)) i h.0
      by_head false f g = g f

  -- what a command that is written out gives by computing
  pub record Fits : Type 0 where
    pub places : At 1 c.names
    pub options : KnownOptions c.options
    pub distinct : all_differ c.names ≡ true
    pub apart : list_all (λ k. differs k c.names) c.options ≡ true

  long_some : (n k : Text) → find (λ j. bytes_eq j n) c.options ≡ Some k → arg_by_long R n ≡ Some (rule (flag k))
  long_some n k e = places_long 1 c.names (map flag c.options) n ∙ long_is c.options n ∙ ap (option_map (λ j. rule (flag j))) e

  long_none : (n : Text) → find (λ j. bytes_eq j n) c.options ≡ None → arg_by_long R n ≡ None
  long_none n e = places_long 1 c.names (map flag c.options) n ∙ long_is c.options n ∙ ap (option_map (λ j. rule (flag j))) e

  -- ---- one word more

  join : (n n' : Option Found) (tf : Kinds) (w w' : Walk) (ws : List Text) → n ≡ n' → tf ≡ [] → w ≡ w' → Agrees c n' (total w' ws) (rows_of w' ws)
      → Agrees c n (or_else (or_else tf (walk_fault S [] w ws)) (walks.ends ss program (fold (walked R []) w ws))) (rows_of w ws)
  join n n' tf w w' ws en et ew h = rw (en, et, ew) h

  step : (n n' : Option Found) (w w' : Walk) (x : Text) (ws : List Text) → n ≡ n' → turn_fault S [] w x ≡ [] → walked R [] w x ≡ w' → Agrees c n' (total w' ws) (rows_of w' ws)
      → Agrees c n (total w (x ∷ ws)) (rows_of w (x ∷ ws))
  unfolding walk_fault
  step n n' w w' x ws en et ew h = join n n' (turn_fault S [] w x) (walked R [] w x) w' ws en et ew h

  stop : (n : Option Found) (w : Walk) (x : Text) (ws : List Text) (k : ErrorKind) → n ≡ None → turn_fault S [] w x ≡ k ∷ [] → Agrees c n (total w (x ∷ ws)) (rows_of w (x ∷ ws))
  unfolding walk_fault
  stop n w x ws k en et = rw et (agrees_none c n k _ _ en)

  finish : (n : Option Found) (w : Walk) (k : ErrorKind) → n ≡ None → walks.ends ss program w ≡ k ∷ [] → Agrees c n (total w []) (rows_of w [])
  unfolding walk_fault
  finish n w k en et = rw et (agrees_none c n k [] _ en)

  -- ---- what the state of the walk stands for

  pub record Inv (us : Uses) (p : Option Use) (ns : List Text) (g : List (Text × Text)) : Type 0 where
    pub known : KnownUse p
    pub fresh : Fresh us p
    pub tells : Tells (push us p)
    pub fill : Fill (push us p) c.names ns
    pub given : Given (push us p) c.options g

  fine : (us : Uses) (p : Option Use) (ns : List Text) (g : List (Text × Text)) → Inv us p ns g → settle_fault R false (held_at us p) ≡ []
  fine us p ns g inv = walks.settle_fine ss program us p inv.known inv.fresh

  -- a name that comes to its place
  name_inv : (us : Uses) (p : Option Use) (ns : List Text) (g : List (Text × Text)) (s : Slot) (w : Text) → Fits → Known s → Next (left c.names ns) (id s) → Fresh (push us p) (Some (s, w)) → Inv us p ns g
      → Inv (push us p) (Some (s, w)) (ns ++ w ∷ []) g
  name_inv us p ns g s w fits known next fresh inv = record {
    known = known;
    fresh = fresh;
    tells = tells_push (push us p) s w inv.tells fresh;
    fill = fill_name (push us p) s w c.names ns next fits.distinct inv.fill;
    given = given_name (push us p) s w c ns g next fits.apart inv.given;
  }

  -- an option that is used for the first time
  unused : (us : Uses) (g : List (Text × Text)) (n k : Text) → find (λ j. bytes_eq j n) c.options ≡ Some k → value_given k g ≡ None → Given us c.options g → values k us ≡ []
  unused us g n k e f h = h n k e ∙ ap list_of f

  no_row : (us : Uses) (k : Text) → Tells us → values k us ≡ [] → has_row k (rows_at us) ≡ false
  no_row us k t e = tells_has us k t ∙ ap has_some e

  -- with its value pending
  wait_inv : (us : Uses) (ns : List Text) (g : List (Text × Text)) (n k w : Text) → Fits → find (λ j. bytes_eq j n) c.options ≡ Some k → value_given k g ≡ None → Inv us None ns g → Inv us (Some (flag k, w)) ns ((k, w) ∷ g)
  wait_inv us ns g n k w fits e f inv = record {
    known = known_option c.options n k fits.options e;
    fresh = no_row us k inv.tells (unused us g n k e f inv.given);
    tells = tells_push us (flag k) w inv.tells (no_row us k inv.tells (unused us g n k e f inv.given));
    fill = fill_flag us k w c.names ns (option_differs c.options c.names n k fits.apart e) inv.fill;
    given = given_flag us k w c.options g (unused us g n k e f inv.given) inv.given;
  }

  -- with its value in the word
  with_inv : (us : Uses) (ns : List Text) (g : List (Text × Text)) (n k w : Text) → Fits → find (λ j. bytes_eq j n) c.options ≡ Some k → value_given k g ≡ None → Inv us None ns g → Inv ((flag k, w) ∷ us) None ns ((k, w) ∷ g)
  with_inv us ns g n k w fits e f inv = record {
    known = tt;
    fresh = tt;
    tells = (wait_inv us ns g n k w fits e f inv).tells;
    fill = (wait_inv us ns g n k w fits e f inv).fill;
    given = (wait_inv us ns g n k w fits e f inv).given;
  }

  settled_inv : (us : Uses) (p : Option Use) (ns : List Text) (g : List (Text × Text)) → Inv us p ns g → Inv (push us p) None ns g
  settled_inv us p ns g inv = record { known = tt; fresh = tt; tells = inv.tells; fill = inv.fill; given = inv.given }

  -- ---- the end of the words

  told_is : (us : Uses) (p : Option Use) (ns : List Text) (g : List (Text × Text)) → nat_eq (length c.names) (length ns) ≡ true → Inv us p ns g → Told c (record { names = ns; given = g }) (rows_at (push us p))
  told_is us p ns g e inv = record {
    names = tells_names (push us p) c.names ns inv.tells e inv.fill;
    options = λ n k f. tells_first (push us p) k inv.tells ∙ ap (λ (vs : List Text). slice_get vs 0) (inv.given n k f) ∙ first_is (value_given k g);
  }
    where
      first_is : (o : Option Text) → slice_get (list_of o) 0 ≡ o
      first_is None = refl
      first_is (Some v) = refl

  by_count : (b : Bool) (f : Found) (kinds : Kinds) (rows rows' : List Row) → kinds ≡ cond (not b) (MissingRequiredArgument ∷ []) [] → rows ≡ rows' → (b ≡ true → Told c f rows')
      → Agrees c (cond b (Some f) None) kinds rows
  by_count true f kinds rows rows' k r t = rw r (k, t refl)
  by_count false f kinds rows rows' k r t = rw k (no_kinds MissingRequiredArgument [])

  ended : (t : Bool) (pos : ℕ) (us : Uses) (p : Option Use) (ns : List Text) (g : List (Text × Text)) → Inv us p ns g
      → Agrees c (counted (command_shape c) (Some (record { names = ns; given = g }))) (total (at t pos us p) []) (rows_of (at t pos us p) [])
  unfolding walk_fault
  ended t pos us p ns g inv =
      by_count (nat_eq (length c.names) (length ns)) (record { names = ns; given = g }) _ _ (rows_at (push us p))
      (walks.ends_is ss program t pos us p inv.known inv.fresh ∙ ap (λ b. cond b (MissingRequiredArgument ∷ []) []) (misses_is (push us p) 1 c.names c.options ns inv.tells inv.fill))
      (walks.finished_is ss program us p inv.known)
      (λ e. told_is us p ns g e inv)

  -- ---- more names than there are places

  too_many : (f : Found) → nat_lt (length c.names) (length f.names) ≡ true → counted (command_shape c) (Some f) ≡ None
  too_many f l = by_test (nat_eq (length c.names) (length f.names)) refl
    where
      by_test : (b : Bool) → nat_eq (length c.names) (length f.names) ≡ b → cond b (Some f) None ≡ None
      by_test true e = grind (arith, nat_tests)
      by_test false e = refl

  longer : (ns ms : List Text) → nat_lt (length c.names) (length ns) ≡ true → nat_lt (length c.names) (length (ns ++ ms)) ≡ true
  longer ns ms h = grind (arith, nat_tests, length-append)

  one_more : (ns : List Text) (w : Text) → length c.names ≡ length ns → nat_lt (length c.names) (length (ns ++ w ∷ [])) ≡ true
  one_more ns w e = grind (arith, nat_tests, length-append)

  by_once : (o : Option Text) (n : Option Found) → counted (command_shape c) n ≡ None → counted (command_shape c) (cond (is_some o) None n) ≡ None
  by_once None n e = e
  by_once (Some v) n e = refl

  by_word : (d o : Bool) (ow : OptionWord) (t n : Option Found) (wait : Text → Option Found) (next : Text → Text → Option Found)
      → counted (command_shape c) t ≡ None → counted (command_shape c) n ≡ None → ((k : Text) → counted (command_shape c) (wait k) ≡ None) → ((k v : Text) → counted (command_shape c) (next k v) ≡ None)
      → counted (command_shape c) (cond d t (cond o (by_option ow wait next) n)) ≡ None
  by_word true o ow t n wait next et en ew ex = et
  by_word false false ow t n wait next et en ew ex = en
  by_word false true (alone k) t n wait next et en ew ex = ew k
  by_word false true (with k v) t n wait next et en ew ex = ex k v
  by_word false true unknown t n wait next et en ew ex = refl

  by_value : (o : Bool) (n : Option Found) → counted (command_shape c) n ≡ None → counted (command_shape c) (cond o None n) ≡ None
  by_value true n e = refl
  by_value false n e = e

  crowd : (m : Mode) (ns : List Text) (g : List (Text × Text)) (ws : List Text) → nat_lt (length c.names) (length ns) ≡ true → counted (command_shape c) (read c.options m ns g ws) ≡ None
  unfolding read
  crowd plain ns g [] l = too_many (record { names = ns; given = g }) l
  crowd (value k) ns g [] l = refl
  crowd (value k) ns g (w ∷ ws) l = by_value (is_option w) _ (crowd plain ns ((k, w) ∷ g) ws l)
  crowd plain ns g (w ∷ ws) l = by_word (is_dashes w) (is_option w) (option_word c.options w) _ _ _ _
      (too_many (record { names = ns ++ ws; given = g }) (longer ns ws l))
      (crowd plain (ns ++ w ∷ []) g ws (longer ns (w ∷ []) l))
      (λ k. by_once (value_given k g) _ (crowd (value k) ns g ws l))
      (λ k v. by_once (value_given k g) _ (crowd plain ns ((k, v) ∷ g) ws l))

  -- ---- the induction

  left_nil : (ps : List Text) → left ps [] ≡ ps
  left_nil [] = refl
  left_nil (k ∷ ps) = refl

  one_by_one : (ns ws : List Text) (w : Text) → ns ++ w ∷ ws ≡ (ns ++ w ∷ []) ++ ws
  one_by_one [] ws w = refl
  one_by_one (n ∷ ns) ws w = ap (λ t. n ∷ t) (one_by_one ns ws w)

  -- a name comes to its place, or there is none
  named_word : (n n' : Option Found) (t : Bool) (pos : ℕ) (us : Uses) (p : Option Use) (ns : List Text) (g : List (Text × Text)) (ps : List Text) (w : Text) (ws : List Text)
      → Fits → IsName w t → n ≡ n' → (length c.names ≡ length ns → n ≡ None) → Inv us p ns g → left c.names ns ≡ ps → At pos ps
      → ((pos' : ℕ) (us' : Uses) (p' : Option Use) (ps' : List Text) → Inv us' p' (ns ++ w ∷ []) g → left c.names (ns ++ w ∷ []) ≡ ps' → At pos' ps'
      → Agrees c n' (total (at t pos' us' p') ws) (rows_of (at t pos' us' p') ws))
      → Agrees c n (total (at t pos us p) (w ∷ ws)) (rows_of (at t pos us p) (w ∷ ws))
  named_word n n' t pos us p ns g [] w ws fits look en none inv el at_pos go =
      stop n (at t pos us p) w ws UnknownArgument (none (full_is (push us p) c.names ns inv.fill el)) (walks.stray-fault ss program t pos us p w look at_pos)
  named_word n n' t pos us p ns g (k ∷ ps) w ws fits look en none inv el at_pos go =
      step n n' (at t pos us p) (at t (min (pos + 1) usize_max) (push us p) (Some (name pos k, w))) w ws en
      (walks.name-fault ss program t pos us p w pos k look at_pos.0 ∙ fine us p ns g inv)
      (walks.name-walk ss program t pos us p w pos k look inv.known at_pos.0)
      (go (min (pos + 1) usize_max) (push us p) (Some (name pos k, w)) ps
      (name_inv us p ns g (name pos k) w fits at_pos.1 (subst (λ q. Next q k) (sym el) refl) (no_row (push us p) k inv.tells (fill_next (push us p) c.names ps ns k el inv.fill)) inv)
      (left_more c.names ns w ∙ ap (λ q. left q (w ∷ [])) el ∙ left_nil ps) at_pos.2)

  -- behind `--`
  trailing : (ws : List Text) (pos : ℕ) (us : Uses) (p : Option Use) (ns : List Text) (g : List (Text × Text)) (ps : List Text) → Fits → Inv us p ns g → left c.names ns ≡ ps → At pos ps
      → Agrees c (counted (command_shape c) (Some (record { names = ns ++ ws; given = g }))) (total (at true pos us p) ws) (rows_of (at true pos us p) ws)
  trailing [] pos us p ns g ps fits inv el at_pos = rw (append-nil ns) (ended true pos us p ns g inv)
  trailing (w ∷ ws) pos us p ns g ps fits inv el at_pos =
      named_word (counted (command_shape c) (Some (record { names = ns ++ w ∷ ws; given = g }))) (counted (command_shape c) (Some (record { names = (ns ++ w ∷ []) ++ ws; given = g })))
      true pos us p ns g ps w ws fits behind (ap (λ t. counted (command_shape c) (Some (record { names = t; given = g }))) (one_by_one ns ws w))
      (λ e. too_many (record { names = ns ++ w ∷ ws; given = g }) (rw (one_by_one ns ws w) (longer (ns ++ w ∷ []) ws (one_more ns w e)))) inv el at_pos
      (λ pos' us' p' ps' inv' el' at'. trailing ws pos' us' p' (ns ++ w ∷ []) g ps' fits inv' el' at')

  -- ---- an option for the second time

  conflict : (us : Uses) (k v : Text) → Known (flag k) → has_row k (rows_at us) ≡ true → settle_fault R false (held_at us (Some (flag k, v))) ≡ ArgumentConflict ∷ []
  conflict us k v h e = walks.settle_conflict ss program us k v h e

  doom_end : (t : Bool) (pos : ℕ) (us : Uses) (k v : Text) → Known (flag k) → has_row k (rows_at us) ≡ true → Agrees c None (total (at t pos us (Some (flag k, v))) []) (rows_of (at t pos us (Some (flag k, v))) [])
  doom_end t pos us k v h e = finish None (at t pos us (Some (flag k, v))) ArgumentConflict refl (rw (conflict us k v h e) refl)

  doom_name : (t : Bool) (pos : ℕ) (us : Uses) (k v : Text) (ps : List Text) (w : Text) (ws : List Text) → IsName w t → At pos ps → Known (flag k) → has_row k (rows_at us) ≡ true
      → Agrees c None (total (at t pos us (Some (flag k, v))) (w ∷ ws)) (rows_of (at t pos us (Some (flag k, v))) (w ∷ ws))
  doom_name t pos us k v [] w ws look at_pos h e = stop None (at t pos us (Some (flag k, v))) w ws UnknownArgument refl (walks.stray-fault ss program t pos us (Some (flag k, v)) w look at_pos)
  doom_name t pos us k v (j ∷ ps) w ws look at_pos h e = stop None (at t pos us (Some (flag k, v))) w ws ArgumentConflict refl
      (walks.name-fault ss program t pos us (Some (flag k, v)) w pos j look at_pos.0 ∙ conflict us k v h e)

  doom_trailing : (pos : ℕ) (us : Uses) (k v : Text) (ps : List Text) (ws : List Text) → At pos ps → Known (flag k) → has_row k (rows_at us) ≡ true
      → Agrees c None (total (at true pos us (Some (flag k, v))) ws) (rows_of (at true pos us (Some (flag k, v))) ws)
  doom_trailing pos us k v ps [] at_pos h e = doom_end true pos us k v h e
  doom_trailing pos us k v ps (w ∷ ws) at_pos h e = doom_name true pos us k v ps w ws behind at_pos h e

  doom : (pos : ℕ) (us : Uses) (k v : Text) (ps : List Text) (ws : List Text) → Utf8s ws → At pos ps → Known (flag k) → has_row k (rows_at us) ≡ true
      → Agrees c None (total (at false pos us (Some (flag k, v))) ws) (rows_of (at false pos us (Some (flag k, v))) ws)
  doom pos us k v ps [] u at_pos h e = doom_end false pos us k v h e
  doom pos us k v ps (w ∷ ws) u at_pos h e = elim (word_of c.options w u.0) [
    | w_dashes d o ↦ step None None (at false pos us (Some (flag k, v))) (at true pos us (Some (flag k, v))) w ws refl
        (walks.dashes-fault ss program pos us (Some (flag k, v)) w d) (walks.dashes-walk ss program pos us (Some (flag k, v)) w d) (doom_trailing pos us k v ps ws at_pos h e)
    | w_alone n j d o l f ow ↦ stop None (at false pos us (Some (flag k, v))) w ws ArgumentConflict refl
        (walks.alone-fault ss program pos us (Some (flag k, v)) w n j d l (long_some n j f) ∙ ap (λ x. or_else x []) (conflict us k v h e))
    | w_with n j x d o l f ow ↦ stop None (at false pos us (Some (flag k, v))) w ws ArgumentConflict refl
        (walks.with-fault ss program pos us (Some (flag k, v)) w n j x d l (long_some n j f) h
        ∙ ap (λ y. or_else (or_else y (use_fault false (rule (flag j)) (x ∷ []) (rows_at ((flag k, v) ∷ us)))) []) (conflict us k v h e))
    | w_unknown n x d o l f ow ↦ stop None (at false pos us (Some (flag k, v))) w ws UnknownArgument refl (walks.unknown-fault ss program pos us (Some (flag k, v)) w n x d l (long_none n f))
    | w_short letters x n d o l s len ch ow ↦ stop None (at false pos us (Some (flag k, v))) w ws UnknownArgument refl (walks.short-fault ss program pos us (Some (flag k, v)) w letters x n d l s len ch)
    | w_name d o l s ↦ doom_name false pos us k v ps w ws (looks d l s) at_pos h e
  ]

  -- ---- where a value must come

  bare_end : (t : Bool) (pos : ℕ) (us : Uses) (k : Text) (n : Option Found) → n ≡ None → Known (flag k) → Agrees c n (total (wait_at t k pos us) []) (rows_of (wait_at t k pos us) [])
  bare_end t pos us k n e h = finish n (wait_at t k pos us) InvalidValue e (rw (walks.bare-fault ss program t pos us k h) refl)

  bare_trailing : (pos : ℕ) (us : Uses) (k : Text) (ps : List Text) (ws : List Text) → At pos ps → Known (flag k) → Agrees c None (total (wait_at true k pos us) ws) (rows_of (wait_at true k pos us) ws)
  bare_trailing pos us k ps [] at_pos h = bare_end true pos us k None refl h
  bare_trailing pos us k [] (w ∷ ws) at_pos h = stop None (wait_at true k pos us) w ws UnknownArgument refl (walks.bare_stray ss program pos us w k at_pos)
  bare_trailing pos us k (j ∷ ps) (w ∷ ws) at_pos h = stop None (wait_at true k pos us) w ws InvalidValue refl (walks.bare_place ss program pos us w k pos j h at_pos.0)

  wanted_word : (n : Option Found) (pos : ℕ) (us : Uses) (k : Text) (ps : List Text) (w : Text) (ws : List Text) → IsUtf8 w → At pos ps → Known (flag k) → (is_option w ≡ true → n ≡ None)
      → (is_option w ≡ false → Agrees c n (total (at false pos us (Some (flag k, w))) ws) (rows_of (at false pos us (Some (flag k, w))) ws))
      → Agrees c n (total (wait_at false k pos us) (w ∷ ws)) (rows_of (wait_at false k pos us) (w ∷ ws))
  wanted_word n pos us k ps w ws u at_pos h none go = elim (word_of c.options w u) [
    | w_dashes d o ↦ step n None (wait_at false k pos us) (wait_at true k pos us) w ws (none o) (walks.bare_dashes-fault ss program pos us w k d) (walks.bare_dashes-walk ss program pos us w k d) (bare_trailing pos us k ps ws at_pos h)
    | w_alone m j d o l f ow ↦ stop n (wait_at false k pos us) w ws InvalidValue (none o) (walks.bare_alone ss program pos us w m k j h d l (long_some m j f))
    | w_with m j x d o l f ow ↦ stop n (wait_at false k pos us) w ws InvalidValue (none o) (walks.bare_with ss program pos us w m k j x h d l (long_some m j f))
    | w_unknown m x d o l f ow ↦ stop n (wait_at false k pos us) w ws UnknownArgument (none o) (walks.bare_unknown ss program pos us w m k x d l (long_none m f))
    | w_short letters x m d o l s len ch ow ↦ stop n (wait_at false k pos us) w ws UnknownArgument (none o) (walks.bare_short ss program pos us w k letters x m d l s len ch)
    | w_name d o l s ↦ step n n (wait_at false k pos us) (at false pos us (Some (flag k, w))) w ws refl (walks.value-fault ss program pos us w k d l s) (walks.value-walk ss program pos us w k h d l s) (go o)
  ]

  doom_wanted : (pos : ℕ) (us : Uses) (k : Text) (ps : List Text) (ws : List Text) → Utf8s ws → At pos ps → Known (flag k) → has_row k (rows_at us) ≡ true
      → Agrees c None (total (wait_at false k pos us) ws) (rows_of (wait_at false k pos us) ws)
  doom_wanted pos us k ps [] u at_pos h e = bare_end false pos us k None refl h
  doom_wanted pos us k ps (w ∷ ws) u at_pos h e = wanted_word None pos us k ps w ws u.0 at_pos h (λ o. refl) (λ o. doom pos us k w ps ws u.1 at_pos h e)

  -- ---- all words

  -- where the next word finds the walk: any word may come, or the value of an option must
  pub data Spot : Type 0 where
    here : Option Use → Spot
    wanted : Text → Text → Spot

  abbrev spot_walk : ℕ → Uses → Spot → Walk
  spot_walk pos us (here p) = at false pos us p
  spot_walk pos us (wanted n k) = wait_at false k pos us

  abbrev spot_mode : Spot → Mode
  spot_mode (here p) = plain
  spot_mode (wanted n k) = value k

  abbrev SpotInv : Uses → List Text → List (Text × Text) → Spot → Type 0
  SpotInv us ns g (here p) = Inv us p ns g
  SpotInv us ns g (wanted n k) = Inv us None ns g × (find (λ j. bytes_eq j n) c.options ≡ Some k) × (value_given k g ≡ None)

  -- an option that was given, and one that wasn't
  by_given : {X : Type 0} (o : Option Text) → (o ≡ None → X) → ((v : Text) → o ≡ Some v → X) → X
  by_given None f t = f refl
  by_given (Some v) f t = t v refl

  had : (us : Uses) (ns : List Text) (g : List (Text × Text)) (n k v : Text) → find (λ j. bytes_eq j n) c.options ≡ Some k → value_given k g ≡ Some v → Inv us None ns g → has_row k (rows_at us) ≡ true
  had us ns g n k v e f inv = tells_has us k inv.tells ∙ ap has_some (inv.given n k e ∙ ap list_of f)

  with_fine : (us : Uses) (p : Option Use) (ns : List Text) (g : List (Text × Text)) (k v : Text) (u : Kinds) → Inv us p ns g → use_fault false (rule (flag k)) (v ∷ []) (rows_at (push us p)) ≡ u
      → or_else (or_else (settle_fault R false (held_at us p)) (use_fault false (rule (flag k)) (v ∷ []) (rows_at (push us p)))) [] ≡ or_else u []
  with_fine us p ns g k v u inv e = ap (λ x. or_else (or_else x (use_fault false (rule (flag k)) (v ∷ []) (rows_at (push us p)))) []) (fine us p ns g inv) ∙ ap (λ x. or_else x []) e

  pub agrees : (ws : List Text) (s : Spot) (pos : ℕ) (us : Uses) (ns : List Text) (g : List (Text × Text)) (ps : List Text) → Utf8s ws → Fits → SpotInv us ns g s → left c.names ns ≡ ps → At pos ps
      → Agrees c (counted (command_shape c) (read c.options (spot_mode s) ns g ws)) (total (spot_walk pos us s) ws) (rows_of (spot_walk pos us s) ws)
  unfolding read
  agrees [] (here p) pos us ns g ps u fits inv el at_pos = ended false pos us p ns g inv
  agrees [] (wanted n k) pos us ns g ps u fits inv el at_pos = bare_end false pos us k None refl (known_option c.options n k fits.options inv.1)
  agrees (w ∷ ws) (wanted n k) pos us ns g ps u fits inv el at_pos =
      wanted_word (counted (command_shape c) (read c.options (value k) ns g (w ∷ ws))) pos us k ps w ws u.0 at_pos (known_option c.options n k fits.options inv.1)
      (λ o. rw o refl)
      (λ o. rw o (agrees ws (here (Some (flag k, w))) pos us ns ((k, w) ∷ g) ps u.1 fits (wait_inv us ns g n k w fits inv.1 inv.2 inv.0) el at_pos))
  agrees (w ∷ ws) (here p) pos us ns g ps u fits inv el at_pos = elim (word_of c.options w u.0) [
    | w_dashes d o ↦ step (counted (command_shape c) (read c.options plain ns g (w ∷ ws))) (counted (command_shape c) (Some (record { names = ns ++ ws; given = g }))) (at false pos us p) (at true pos us p) w ws
        (rw d refl) (walks.dashes-fault ss program pos us p w d) (walks.dashes-walk ss program pos us p w d) (trailing ws pos us p ns g ps fits inv el at_pos)
    | w_alone n k d o l f ow ↦ by_given (value_given k g)
        (λ e. step (counted (command_shape c) (read c.options plain ns g (w ∷ ws))) (counted (command_shape c) (read c.options (value k) ns g ws)) (at false pos us p) (wait_at false k pos (push us p)) w ws
        (rw (d, o, ow, e) refl) (walks.alone-fault ss program pos us p w n k d l (long_some n k f) ∙ ap (λ x. or_else x []) (fine us p ns g inv)) (walks.alone-walk ss program pos us p w n k d l (long_some n k f) inv.known)
        (agrees ws (wanted n k) pos (push us p) ns g ps u.1 fits (settled_inv us p ns g inv, f, e) el at_pos))
        (λ v e. step (counted (command_shape c) (read c.options plain ns g (w ∷ ws))) None (at false pos us p) (wait_at false k pos (push us p)) w ws
        (rw (d, o, ow, e) refl) (walks.alone-fault ss program pos us p w n k d l (long_some n k f) ∙ ap (λ x. or_else x []) (fine us p ns g inv)) (walks.alone-walk ss program pos us p w n k d l (long_some n k f) inv.known)
        (doom_wanted pos (push us p) k ps ws u.1 at_pos (known_option c.options n k fits.options f) (had (push us p) ns g n k v f e (settled_inv us p ns g inv))))
    | w_with n k x d o l f ow ↦ by_given (value_given k g)
        (λ e. step (counted (command_shape c) (read c.options plain ns g (w ∷ ws))) (counted (command_shape c) (read c.options plain ns ((k, x) ∷ g) ws)) (at false pos us p) (at false pos ((flag k, x) ∷ push us p) None) w ws
        (rw (d, o, ow, e) refl)
        (walks.with-fault ss program pos us p w n k x d l (long_some n k f) inv.known ∙ with_fine us p ns g k x [] inv (walks.use_fine ss program k x (push us p) (no_row (push us p) k inv.tells (unused (push us p) g n k f e inv.given))))
        (walks.with-walk ss program pos us p w n k x d l (long_some n k f) inv.known)
        (agrees ws (here None) pos ((flag k, x) ∷ push us p) ns ((k, x) ∷ g) ps u.1 fits (with_inv (push us p) ns g n k x fits f e (settled_inv us p ns g inv)) el at_pos))
        (λ v e. stop (counted (command_shape c) (read c.options plain ns g (w ∷ ws))) (at false pos us p) w ws ArgumentConflict (rw (d, o, ow, e) refl)
        (walks.with-fault ss program pos us p w n k x d l (long_some n k f) inv.known ∙ with_fine us p ns g k x (ArgumentConflict ∷ []) inv (walks.use_conflict ss program k x (push us p) (had (push us p) ns g n k v f e (settled_inv us p ns g inv)))))
    | w_unknown n x d o l f ow ↦ stop (counted (command_shape c) (read c.options plain ns g (w ∷ ws))) (at false pos us p) w ws UnknownArgument (rw (d, o, ow) refl) (walks.unknown-fault ss program pos us p w n x d l (long_none n f))
    | w_short letters x n d o l s len ch ow ↦ stop (counted (command_shape c) (read c.options plain ns g (w ∷ ws))) (at false pos us p) w ws UnknownArgument (rw (d, o, ow) refl) (walks.short-fault ss program pos us p w letters x n d l s len ch)
    | w_name d o l s ↦ named_word (counted (command_shape c) (read c.options plain ns g (w ∷ ws))) (counted (command_shape c) (read c.options plain (ns ++ w ∷ []) g ws)) false pos us p ns g ps w ws fits (looks d l s) (rw (d, o) refl)
        (λ e. rw (d, o) (crowd plain (ns ++ w ∷ []) g ws (one_more ns w e))) inv el at_pos
        (λ pos' us' p' ps' inv' el' at'. agrees ws (here p') pos' us' (ns ++ w ∷ []) g ps' u.1 fits inv' el' at')
  ]

  -- ---- the whole line

  fills_none : (ps : List Text) → Fill [] ps []
  fills_none [] = tt
  fills_none (k ∷ ps) = (refl, fills_none ps)

  nothing_inv : Inv [] None [] []
  nothing_inv = record { known = tt; fresh = tt; tells = λ i. refl; fill = fills_none c.names; given = λ n k e. refl }

  pub from_start : (ws : List Text) → Utf8s ws → Fits → Agrees c (read_by (command_shape c) ws) (total (at false 1 [] None) ws) (rows_of (at false 1 [] None) ws)
  from_start ws u fits = agrees ws (here None) 1 [] [] [] c.names u fits nothing_inv (left_nil c.names) fits.places

  -- `clap` builds the command as it was told, with the places numbered
  filled_options : (i : ℕ) (options : List Text) → filled_from i (map told (map flag options)) ≡ rules (map flag options)
  filled_options i [] = refl
  filled_options i (k ∷ options) = ap (λ t. rule (flag k) ∷ t) (filled_options i options)

  filled_is : (i : ℕ) (ps : List Text) (options : List Text) → filled_from i (map told (slots_from i ps (map flag options))) ≡ rules (slots_from i ps (map flag options))
  filled_is i [] options = filled_options i options
  filled_is i (k ∷ ps) options = ap (λ t. rule (name i k) ∷ t) (filled_is (min (i + 1) usize_max) ps options)

  level_is : (met : Option (Text × List Text)) (ws : List Text) → level_fault S [] nothing_held ws (is_some (entered (record { top = S; subs = [] }) met)) (entered_fault (record { top = S; subs = [] }) met) ≡ total (at false 1 [] None) ws
  level_is None ws = refl
  level_is (Some p) ws = refl

  pub reads_as : (ws : List Text) → Utf8s (drop 1 ws) → Fits → Agrees c (read_by (command_shape c) (drop 1 ws)) (fault_of (app_by program c) ws) (matches_of (app_by program c) ws)
  reads_as ws u fits = rw (filled_is 1 c.names c.options) (rw (level_is (walk R [] nothing_held (drop 1 ws)).stopped (drop 1 ws)) (from_start (drop 1 ws) u fits))
