-- From `clap`'s answer to the reading.
use Rattle.std.proofs.Common.{◌≡◌, ◌≢◌, ◌∙◌, true, refl, sym, ap, subst, List, [], ◌∷◌, map, drop, Option, Some, None, Result, Ok, Err, IfOk}
use Rattle.std.specs.Prelude.{String, string_bytes}
use Rattle.std.specs.declared.alloc.Global.{Global}
use Rattle.std.proofs.lemmas.Str.{IsUtf8-had}
use Rattle.clap.specs.Words.{App, Kinds, Row, fault_of, first_of, found_of, is_simple, is_simple_and_free, matches_of, rows_of}
use Rattle.clap.specs.declared.ArgMatches.{ArgMatches}
use Rattle.clap.proofs.WalkLemmas.{first_value-rows}
use Rattle.am_words.specs.Grammar.{Found, Text, loosely_by}
use Rattle.am_words.proofs.Forwards.{Agree, Alike, forwards, read_by}
use Rattle.am_words.specs.Slots.{Arguments, app_by, is_sound, command_shape}
use Rattle.am_words.specs.Told.{HasNames, IsReadAs, IsTold}
use Rattle.am_words.specs.declared.fault.WordsFault.{WordsFault}
use Rattle.am_words.proofs.Fills.{TellsNames, and_left}
use Rattle.am_words.proofs.Agrees.{Agrees, Told, Utf8s, reads_as}
use Rattle.am_words.proofs.Sound.{fits}

abbrev pub texts : List (String Global) → List Text
texts = map string_bytes

all_utf8 : (ws : List (String Global)) → Utf8s (texts ws)
all_utf8 [] = tt
all_utf8 (w ∷ ws) = (IsUtf8-had (string_bytes w) w.ok, all_utf8 ws)

rest_utf8 : (ws : List (String Global)) → Utf8s (drop 1 (texts ws))
rest_utf8 [] = tt
rest_utf8 (w ∷ ws) = all_utf8 ws

agreed : (c : Arguments) (program : Text) (ws : List (String Global)) → is_sound c ≡ true
    → Agrees c (read_by (command_shape c) (drop 1 (texts ws))) (fault_of (app_by program c) (texts ws)) (matches_of (app_by program c) (texts ws))
agreed c program ws e = reads_as c program (texts ws) (rest_utf8 ws) (fits c program e)

pub simple_is : (a : App) → is_simple_and_free a ≡ true → is_simple a ≡ true
simple_is a e = and_left (is_simple a) _ e

module _ (m : ArgMatches) where
  has_names : (rows : List Row) (ks ns : List Text) → rows_of (found_of m) ≡ rows → TellsNames rows ks ns → HasNames (found_of m) ks ns
  has_names rows [] [] e h = tt
  has_names rows [] (n ∷ ns) e h = h
  has_names rows (k ∷ ks) [] e h = h
  has_names rows (k ∷ ks) (n ∷ ns) e h = (first_value-rows (found_of m) k ∙ ap (first_of k) e ∙ h.0, has_names rows ks ns e h.1)

  is_told : (c : Arguments) (f h : Found) (rows : List Row) → rows_of (found_of m) ≡ rows → Told c h rows → Alike f h → IsTold c f m
  is_told c f h rows e t a = record {
    names = has_names rows c.names f.names e (subst (TellsNames rows c.names) (a.names) t.names);
    options = λ k g. first_value-rows (found_of m) k ∙ ap (first_of k) e ∙ t.options k k g ∙ a.given k;
  }

  from_agrees : (c : Arguments) (words : List Text) (r o : Option Found) (kinds : Kinds) (rows : List Row) → loosely_by (command_shape c) words ≡ o → Agree r o → Agrees c r kinds rows → kinds ≡ [] → rows_of (found_of m) ≡ rows
      → IsReadAs c words m
  from_agrees c words r None kinds rows l a h k e = let bad : Agrees c None kinds rows = subst (λ t. Agrees c t kinds rows) a h in absurd (bad k)
  from_agrees c words r (Some f) kinds rows l a h k e =
      let told : Agrees c (Some a.0) kinds rows = subst (λ t. Agrees c t kinds rows) (a.1) h in
      record { found = f; is = l; told = is_told c f a.0 rows e told.1 a.2 }

-- what is known of the answer, over any name for what `clap` was told
pub read_as : (c : Arguments) (program : Text) (ws : List (String Global)) (a : App) (r : Result ArgMatches WordsFault) → is_sound c ≡ true → a ≡ app_by program c
    → IfOk r (λ m. fault_of a (texts ws) ≡ []) → IfOk r (λ m. rows_of (found_of m) ≡ matches_of a (texts ws)) → IfOk r (IsReadAs c (drop 1 (texts ws)))
read_as c program ws a (Err x) s e f g = tt
read_as c program ws a (Ok m) s e f g =
    from_agrees m c (drop 1 (texts ws)) (read_by (command_shape c) (drop 1 (texts ws))) (loosely_by (command_shape c) (drop 1 (texts ws))) (fault_of (app_by program c) (texts ws)) (matches_of (app_by program c) (texts ws)) refl
    (forwards (command_shape c) (drop 1 (texts ws))) (agreed c program ws s) (ap (λ t. fault_of t (texts ws)) (sym e) ∙ f) (g ∙ ap (λ t. matches_of t (texts ws)) e)

refused : (c : Arguments) (o : Option Found) (kinds : Kinds) (rows : List Row) → Agrees c o kinds rows → kinds ≢ [] → o ≡ None
refused c None kinds rows h k = refl
refused c (Some f) kinds rows h k = absurd (k h.0)

none_too : (r o : Option Found) → Agree r o → r ≡ None → o ≡ None
none_too r None a e = refl
none_too r (Some f) a e = let bad : None ≡ Some a.0 = sym e ∙ a.1 in absurd cc

pub no_reading : (c : Arguments) (program : Text) (ws : List (String Global)) (a : App) → is_sound c ≡ true → a ≡ app_by program c → fault_of a (texts ws) ≢ [] → loosely_by (command_shape c) (drop 1 (texts ws)) ≡ None
no_reading c program ws a s e f = none_too _ _ (forwards (command_shape c) (drop 1 (texts ws)))
    (refused c (read_by (command_shape c) (drop 1 (texts ws))) (fault_of (app_by program c) (texts ws)) (matches_of (app_by program c) (texts ws)) (agreed c program ws s) (λ k. f (ap (λ t. fault_of t (texts ws)) e ∙ k)))
