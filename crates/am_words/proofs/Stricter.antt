-- Where no option takes the value `-`, it makes no difference whether `-` alone passes as a value.
use Rattle.std.proofs.Common.{◌≡◌, ◌==◌, ℕ, Bool, cond, true, false, refl, arith, List, [], ◌∷◌, length, Option, Some, None, codes}
use Rattle.std.specs.Prelude.{nat_eq, is_some, find, option_and_then}
use Rattle.std.specs.Str.{bytes_eq}
use Rattle.std.specs.List.{list_any, before_first, after_first}
use Rattle.std.proofs.lemmas.Bool.Decides.{nat_tests}
use Rattle.std.proofs.lemmas.Slice.Eq.{bytes_eq-Decides}
use Rattle.am_words.specs.Grammar.{Found, Mode, OptionWord, CommandShape, Text, alone, and_name, and_option, begins, by_option, counted, is_dashes, is_option, said, loosely_by, option_named, option_word, plain, reading_by, unknown, value, value_given, with, with_name}
use Rattle.am_words.specs.Commands.{check_shape, check_from, demo_shape, demo_from, make_shape, make_from, make_of, read_as_check, read_as_demo, read_as_make, read_as_theory, theory_shape, theory_from, two}
use Rattle.am_words.specs.declared.command.Command.{Command}

abbrev Hyphen : Text
Hyphen = 45 ∷ []

module _ (options : List Text) where
  -- one of the command's options
  abbrev Has : Text → Type 0
  Has k = (n : Text) × (find (λ j. bytes_eq j n) options ≡ Some k)

  -- the two readings are one, or the first has the value `-` and the second is none
  data Near : Option Found → Option Found → Type 0 where
    one : (o : Option Found) → Near o o
    spoilt : (k : Text) (f : Found) → Has k → value_given k f.given ≡ Some Hyphen → Near (Some f) None

  near_name : (w : Text) (o p : Option Found) → Near o p → Near (and_name w o) (and_name w p)
  near_name w o p (one q) = one (and_name w q)
  near_name w o p (spoilt k f has e) = spoilt k (record { names = w ∷ f.names; given = f.given }) has e

  near_option : (i v : Text) (o p : Option Found) → Near o p → Near (and_option i v o) (and_option i v p)
  near_option i v o p (one q) = one (and_option i v q)
  near_option i v o p (spoilt k f has e) = by_later (value_given i f.given) refl
    where
      by_key : (b : Bool) → bytes_eq i k ≡ b → value_given i f.given ≡ None → cond b (Some v) (value_given k f.given) ≡ Some Hyphen
      by_key true h n = let same : i ≡ k = (bytes_eq-Decides i k).0 h in let none : value_given k f.given ≡ None = rw (← same) n in let bad : None ≡ Some Hyphen = rw (← none) e in absurd cc
      by_key false h n = e

      by_later : (q : Option Text) → value_given i f.given ≡ q → Near (cond (is_some q) None (Some (record { names = f.names; given = (i, v) ∷ f.given }))) None
      by_later None n = spoilt k (record { names = f.names; given = (i, v) ∷ f.given }) has (by_key (bytes_eq i k) refl n)
      by_later (Some x) n = one None

  -- the option of a word is one of the command's
  abbrev Known : OptionWord → Type 0
  Known (alone k) = Has k
  Known (with k v) = Has k
  Known unknown = Unit {0}

  known_name : (n : Text) (o : Option Text) (b : Bool) (v : Text) → find (λ j. bytes_eq j n) options ≡ o → Known (with_name o b v)
  known_name n None b v e = tt
  known_name n (Some k) true v e = (n, e)
  known_name n (Some k) false v e = (n, e)

  known_word : (w : Text) → Known (option_word options w)
  known_word [] = tt
  known_word (x ∷ []) = tt
  known_word (x ∷ y ∷ r) = by_second (nat_eq y 45)
    where
      by_second : (b : Bool) → Known (cond b (option_named options r) unknown)
      by_second true = known_name (before_first (λ c. c == 61) r) (find (λ k. bytes_eq k (before_first (λ c. c == 61) r)) options) (list_any (λ c. c == 61) r) (after_first (λ c. c == 61) r) refl
      by_second false = tt

  near_word : (d o : Bool) (ow : OptionWord) (t a b : Option Found) (wait wait' : Text → Option Found) (next next' : Text → Text → Option Found) → Known ow
      → Near a b → ((k : Text) → Has k → Near (wait k) (wait' k)) → ((k v : Text) → Near (next k v) (next' k v))
      → Near (cond d t (cond o (by_option ow wait next) a)) (cond d t (cond o (by_option ow wait' next') b))
  near_word true o ow t a b wait wait' next next' h na nw nx = one t
  near_word false false ow t a b wait wait' next next' h na nw nx = na
  near_word false true (alone k) t a b wait wait' next next' h na nw nx = nw k h
  near_word false true (with k v) t a b wait wait' next next' h na nw nx = nx k v
  near_word false true unknown t a b wait wait' next next' h na nw nx = one None

  -- a value of one byte
  near_short : (k : Text) (x : ℕ) (b : Bool) (o p : Option Found) → Has k → nat_eq x 45 ≡ b → Near o p → Near (and_option k (x ∷ []) o) (cond b None (and_option k (x ∷ []) p))
  near_short k x false o p has e h = near_option k (x ∷ []) o p h
  near_short k x true None p has e h = one None
  near_short k x true (Some f) p has e h = by_later (value_given k f.given)
    where
      x_is : x ≡ 45
      x_is = grind (arith, nat_tests)

      own : value_given k ((k, x ∷ []) ∷ f.given) ≡ Some Hyphen
      own = rw ((bytes_eq-Decides k k).1 refl, x_is) refl

      by_later : (q : Option Text) → Near (cond (is_some q) None (Some (record { names = f.names; given = (k, x ∷ []) ∷ f.given }))) None
      by_later None = spoilt k (record { names = f.names; given = (k, x ∷ []) ∷ f.given }) has own
      by_later (Some y) = one None

  near_bars : (b : Bool) (o p : Option Found) → Near o p → Near (cond b None o) (cond b None p)
  near_bars true o p h = one None
  near_bars false o p h = h

  -- the mode's option is one of the command's
  abbrev Wants : Mode → Type 0
  Wants plain = Unit {0}
  Wants (value k) = Has k

  near : (m : Mode) (ws : List Text) → Wants m → Near (said is_option options m ws) (said begins options m ws)
  unfolding said
  near plain [] h = one _
  near (value k) [] h = one _
  near (value k) ([] ∷ ws) h = near_option k [] _ _ (near plain ws tt)
  near (value k) ((x ∷ []) ∷ ws) h = near_short k x (nat_eq x 45) _ _ h refl (near plain ws tt)
  near (value k) ((x ∷ y ∷ r) ∷ ws) h = near_bars (nat_eq x 45) _ _ (near_option k (x ∷ y ∷ r) _ _ (near plain ws tt))
  near plain (w ∷ ws) h = near_word (is_dashes w) (is_option w) (option_word options w) _ _ _ _ _ _ _ (known_word w)
      (near_name w _ _ (near plain ws tt)) (λ k q. near (value k) ws q) (λ k v. near_option k v _ _ (near plain ws tt))

-- `-` is no value of any of these options
abbrev Refuses : {X : Type 0} → List Text → (Found → Option X) → Type 0
Refuses options go = (n k : Text) (f : Found) → find (λ j. bytes_eq j n) options ≡ Some k → value_given k f.given ≡ Some Hyphen → go f ≡ None

module _ {X : Type 0} (s : CommandShape) (go : Found → Option X) (refuses : Refuses s.options go) where
  by_near : (o p : Option Found) → Near s.options o p → option_and_then go (counted s p) ≡ option_and_then go (counted s o)
  by_near o p (one q) = refl
  by_near o p (spoilt k f has e) = by_count (nat_eq s.count (length f.names))
    where
      by_count : (b : Bool) → None ≡ option_and_then go (cond b (Some f) None)
      by_count true = rw (refuses has.0 k f has.1 e) refl
      by_count false = refl

  strict_is : (words : List Text) → option_and_then go (reading_by s words) ≡ option_and_then go (loosely_by s words)
  strict_is words = by_near _ _ (near s.options plain words tt)

-- ---- the commands

none_refuses : {X : Type 0} (go : Found → Option X) → Refuses [] go
none_refuses go n k f e = let bad : None ≡ Some k = e in absurd cc

also_refuses : {X : Type 0} (o : Text) (os : List Text) (go : Found → Option X) → ((f : Found) → value_given o f.given ≡ Some Hyphen → go f ≡ None) → Refuses os go → Refuses (o ∷ os) go
also_refuses o os go h hs n k f e v = by_head (bytes_eq o n) e
  where
    by_head : (b : Bool) → cond b (Some o) (find (λ j. bytes_eq j n) os) ≡ Some k → go f ≡ None
    by_head true i = let all : Some o ≡ Some k = i in let is : o ≡ k = cc in h f (rw is v)
    by_head false i = hs n k f i v

two_none : (ns : List Text) (go : Text → Text → Option Command) → ((a b : Text) → go a b ≡ None) → two ns go ≡ None
two_none [] go h = refl
two_none (a ∷ []) go h = refl
two_none (a ∷ b ∷ []) go h = h a b
two_none (a ∷ b ∷ c ∷ ns) go h = refl

no_weight : (t d : Text) (b c : Option ℕ) → make_of t d b None c ≡ None
no_weight t d None c = refl
no_weight t d (Some b) c = refl

no_choice : (t d : Text) (b w : Option ℕ) → make_of t d b w None ≡ None
no_choice t d None w = refl
no_choice t d (Some b) None = refl
no_choice t d (Some b) (Some w) = refl

make_refuses : Refuses make_shape.options make_from
make_refuses =
    also_refuses (codes "budget") (codes "weight" ∷ codes "choose" ∷ []) make_from (λ f e. two_none f.names _ (λ a b. rw e refl))
    (also_refuses (codes "weight") (codes "choose" ∷ []) make_from (λ f e. two_none f.names _ (λ a b. rw e (no_weight a b _ _)))
    (also_refuses (codes "choose") [] make_from (λ f e. two_none f.names _ (λ a b. rw e (no_choice a b _ _)))
    (none_refuses make_from)))

pub make_is : (words : List Text) → read_as_make words ≡ option_and_then make_from (loosely_by make_shape words)
make_is words = strict_is make_shape make_from make_refuses words

pub check_is : (words : List Text) → read_as_check words ≡ option_and_then check_from (loosely_by check_shape words)
check_is words = strict_is check_shape check_from (none_refuses check_from) words

pub theory_is : (words : List Text) → read_as_theory words ≡ option_and_then theory_from (loosely_by theory_shape words)
theory_is words = strict_is theory_shape theory_from (none_refuses theory_from) words

pub demo_is : (words : List Text) → read_as_demo words ≡ option_and_then demo_from (loosely_by demo_shape words)
demo_is words = strict_is demo_shape demo_from (none_refuses demo_from) words
