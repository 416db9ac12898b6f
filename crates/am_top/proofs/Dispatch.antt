-- From what a function answers to the answer of the command that calls it.
use Rattle.std.proofs.Common.{◌≡◌, ◌∙◌, inl, inr, ℕ, ap, subst, sym, Option, Some, Result, Ok, Err, List, map, slice_get, option_map}
use Rattle.std.specs.Prelude.{MatchResult}
use Rattle.std.proofs.lemmas.Option.{slice_get-map}
use Rattle.am_search.specs.Plain.{Pick}
use Rattle.am_search.specs.declared.outcome.Limits.{Limits}
use Rattle.am_words.specs.declared.command.Command.{Command}
use Rattle.am_words.specs.declared.command.Command.TheVariants.{Make, Check, Demo}
use Rattle.am_top.specs.declared.answer.Answer.{Answer}
use Rattle.am_top.specs.Answers.{IsAnswerOf}
use Rattle.am_top.specs.Commands.{Makes, Checks, Demonstrates, Does}

-- what the chooser at a place picks
pub picked_at : {C : Type 0} (pick : C → Pick) (choosers : List C) (place : ℕ) (chooser : C) → slice_get choosers place ≡ Some chooser → slice_get (map pick choosers) place ≡ Some (pick chooser)
picked_at pick choosers place chooser there = slice_get-map pick choosers place ∙ ap (option_map pick) there

-- the limits that the words give
abbrev limits_of : ℕ → ℕ → Limits
limits_of budget weight = record { budget = budget; weight = weight }

module _ {A : Type 0} (to : A → Answer) where
  -- a text or an answer of which one thing is said, and by it another
  carried : (P Q : Answer → Type 0) (r : Result A Answer) → ((a : Answer) → P a → Q a) → MatchResult r (λ x. P (to x)) (IsAnswerOf P) → MatchResult r (λ x. Q (to x)) (IsAnswerOf Q)
  carried P Q (Ok x) goes h = goes (to x) h
  carried P Q (Err a) goes (inl none) = inl none
  carried P Q (Err a) goes (inr is) = inr (goes a is)

  module _ (told : List ℕ → Option (List ℕ)) (sure : List ℕ → Type 0) (picks : List Pick) (c : Command) (r : Result A Answer) where
    pub make_done : (first second : List ℕ) (budget weight place : ℕ) (pick : Pick) → c ≡ Make first second budget weight place → slice_get picks place ≡ Some pick
        → MatchResult r (λ x. Makes told sure first second (limits_of budget weight) pick (to x)) (IsAnswerOf (Makes told sure first second (limits_of budget weight) pick))
        → MatchResult r (λ x. Does told sure picks c (to x)) (IsAnswerOf (Does told sure picks c))
    make_done first second budget weight place pick is there h =
        carried (Makes told sure first second (limits_of budget weight) pick) (Does told sure picks c) r
        (λ a made. subst (λ (d : Command). Does told sure picks d a) (sym is) (pick, there, made)) h

    pub check_done : (first second third : List ℕ) → c ≡ Check first second third
        → MatchResult r (λ x. Checks told sure first second third (to x)) (IsAnswerOf (Checks told sure first second third))
        → MatchResult r (λ x. Does told sure picks c (to x)) (IsAnswerOf (Does told sure picks c))
    check_done first second third is h = carried (Checks told sure first second third) (Does told sure picks c) r (λ a checked. subst (λ (d : Command). Does told sure picks d a) (sym is) checked) h

    pub demo_done : (k : ℕ) (pick : Pick) → c ≡ Demo k → slice_get picks 0 ≡ Some pick
        → MatchResult r (λ x. Demonstrates k pick (to x)) (IsAnswerOf (Demonstrates k pick))
        → MatchResult r (λ x. Does told sure picks c (to x)) (IsAnswerOf (Does told sure picks c))
    demo_done k pick is there h = carried (Demonstrates k pick) (Does told sure picks c) r (λ a done. subst (λ (d : Command). Does told sure picks d a) (sym is) (pick, there, done)) h
