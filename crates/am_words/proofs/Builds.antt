-- The builder tells `clap` of the command.
use Rattle.std.proofs.Common.{◌≡◌, ◌∙◌, ◌++◌, ◌+◌, ℕ, refl, sym, ap, List, [], ◌∷◌, map, min, Result, Ok, Err, IfOk, append-nil, append_assoc}
use Rattle.clap.specs.Lexer.{usize_max}
use Rattle.clap.specs.Words.{App, Rule, with_rule}
use Rattle.clap.specs.Simple.{on_top}
use Rattle.am_words.specs.Grammar.{Text}
use Rattle.am_words.specs.Slots.{name, flag, told, slots_from, command_of, app_by, bare_app, with_names, with_options}

abbrev with_rules : App → List Rule → App
with_rules a rs = on_top (λ s. record s { rules = s.rules ++ rs }) a

with_two : (a : App) (r : Rule) (rs : List Rule) → with_rules (with_rule a r) rs ≡ with_rules a (r ∷ rs)
with_two a r rs = ap (λ (t : List Rule). on_top (λ s. record s { rules = t }) a) (append_assoc a.top.rules (r ∷ []) rs)

with_none : (a : App) → a ≡ with_rules a []
with_none a = ap (λ (t : List Rule). on_top (λ s. record s { rules = t }) a) (sym (append-nil a.top.rules))

names_are : (a : App) (ks : List Text) → with_names a ks ≡ with_rules a (map (λ k. told (name 0 k)) ks)
names_are a [] = with_none a
names_are a (k ∷ ks) = names_are (with_rule a (told (name 0 k))) ks ∙ with_two a (told (name 0 k)) (map (λ j. told (name 0 j)) ks)

options_are : (a : App) (ks : List Text) → with_options a ks ≡ with_rules a (map (λ k. told (flag k)) ks)
options_are a [] = with_none a
options_are a (k ∷ ks) = options_are (with_rule a (told (flag k))) ks ∙ with_two a (told (flag k)) (map (λ j. told (flag j)) ks)

flags_are : (options : List Text) → map (λ k. told (flag k)) options ≡ map told (map flag options)
flags_are [] = refl
flags_are (k ∷ options) = ap (λ t. told (flag k) ∷ t) (flags_are options)

rules_are : (i : ℕ) (names options : List Text) → map (λ k. told (name 0 k)) names ++ map (λ k. told (flag k)) options ≡ map told (slots_from i names (map flag options))
rules_are i [] options = flags_are options
rules_are i (k ∷ names) options = ap (λ t. told (name 0 k) ∷ t) (rules_are (min (i + 1) usize_max) names options)

-- what the steps of the builder come to
pub built_up : (program : Text) (names options : List Text) (a b d : App) → a ≡ bare_app program → b ≡ with_names a names → d ≡ with_options b options → d ≡ app_by program (command_of names options)
built_up program names options a b d ea eb ed =
    ed ∙ ap (λ t. with_options t options) (eb ∙ ap (λ t. with_names t names) ea)
    ∙ options_are (with_names (bare_app program) names) options
    ∙ ap (λ t. with_rules t (map (λ k. told (flag k)) options)) (names_are (bare_app program) names)
    ∙ ap (λ (t : List Rule). on_top (λ s. record s { rules = t }) (bare_app program)) (rules_are 1 names options)

pub if_ok : {X E : Type 0} (r : Result X E) (P Q : X → Type 0) → IfOk r P → ((x : X) → P x → Q x) → IfOk r Q
if_ok (Ok x) P Q h f = f x h
if_ok (Err e) P Q h f = tt
