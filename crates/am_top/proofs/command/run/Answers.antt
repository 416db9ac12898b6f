use Rattle.am_top.proofs.Runs.{printed_from, demonstrated_from, accepted_from, shown_from, spent_from, exhausted_from, contradiction_from, searched_by_from, long_from, long_by_from, refused_from, refused_by_from, usage_from, file_of_check_from, file_of_make_from, file_of_demo_from, file_of_theory_from, sure_from, calm_from, complete_at, complete_product_at, complete_long_at, complete_check_at, complete_refusal_at, complete_theory_at, any_of}
use Rattle.am_top.proofs.Growth.{rose_where_failed}
use Rattle.am_top.proofs.command.run.Goals as goal

pub returns-clause-printed : goal.returns-clause-printed
returns-clause-printed g c = printed_from c.law_of_entries.ensures _ _ _ _ c.answer_words-answer.result c.print.result c.answer_words-answer.ensures.answer c.print.ensures.status (record { theories = c.theories_that_were_read_are_well_formed.ensures; diagrams = c.diagrams_that_were_read_are_well_formed.ensures }) c.law_of_acceptance.ensures _ _ c.print.ensures.text

pub returns-clause-right : goal.returns-clause-right
returns-clause-right g c = λ ok first second a b budget weight place pick e ea eb chosen text made models. made.right _ models

pub returns-clause-spent : goal.returns-clause-spent
returns-clause-spent g c = spent_from c.law_of_entries.ensures _ _ _ _ c.answer_words-answer.result c.print.result c.answer_words-answer.ensures.answer c.print.ensures.status _ _ c.print.ensures.message

pub returns-clause-exhausted : goal.returns-clause-exhausted
returns-clause-exhausted g c = exhausted_from c.law_of_entries.ensures _ _ _ _ c.answer_words-answer.result c.print.result c.answer_words-answer.ensures.answer c.print.ensures.status _ _ c.print.ensures.message

pub returns-clause-contradiction : goal.returns-clause-contradiction
returns-clause-contradiction g c = contradiction_from c.law_of_entries.ensures _ _ _ _ c.answer_words-answer.result c.print.result c.answer_words-answer.ensures.answer c.print.ensures.status _ _ c.print.ensures.message

pub returns-clause-searched_by : goal.returns-clause-searched_by
returns-clause-searched_by g c = searched_by_from c.law_of_entries.ensures _ _ _ _ c.answer_words-answer.result c.print.result c.answer_words-answer.ensures.answer c.print.ensures.status

pub returns-clause-long : goal.returns-clause-long
returns-clause-long g c = long_from c.law_of_entries.ensures _ _ _ _ c.answer_words-answer.result c.print.result c.answer_words-answer.ensures.answer c.print.ensures.status _ _ c.print.ensures.message

pub returns-clause-long_by : goal.returns-clause-long_by
returns-clause-long_by g c = long_by_from c.law_of_entries.ensures _ _ _ _ c.answer_words-answer.result c.print.result c.answer_words-answer.ensures.answer c.print.ensures.status

pub returns-clause-demonstrated : goal.returns-clause-demonstrated
returns-clause-demonstrated g c = demonstrated_from c.law_of_entries.ensures _ _ _ _ c.answer_words-answer.result c.print.result c.answer_words-answer.ensures.answer c.print.ensures.status _ _ c.print.ensures.text

pub returns-clause-accepted : goal.returns-clause-accepted
returns-clause-accepted g c = accepted_from c.law_of_entries.ensures _ _ _ _ c.answer_words-answer.result c.print.result c.answer_words-answer.ensures.answer c.print.ensures.status (record { theories = c.theories_that_were_read_are_well_formed.ensures; diagrams = c.diagrams_that_were_read_are_well_formed.ensures }) c.law_of_acceptance.ensures _ _ c.print.ensures.text

pub returns-clause-refused : goal.returns-clause-refused
returns-clause-refused g c = refused_from c.law_of_entries.ensures _ _ _ _ c.answer_words-answer.result c.print.result c.answer_words-answer.ensures.answer c.print.ensures.status _ _ c.print.ensures.message

pub returns-clause-refused_by : goal.returns-clause-refused_by
returns-clause-refused_by g c = refused_by_from c.law_of_entries.ensures _ _ _ _ c.answer_words-answer.result c.print.result c.answer_words-answer.ensures.answer c.print.ensures.status

pub returns-clause-shown : goal.returns-clause-shown
returns-clause-shown g c = shown_from c.law_of_entries.ensures _ _ _ _ c.answer_words-answer.result c.print.result c.answer_words-answer.ensures.answer c.print.ensures.status _ _ c.print.ensures.text

pub returns-clause-file_of_make : goal.returns-clause-file_of_make
returns-clause-file_of_make g c = file_of_make_from c.law_of_entries.ensures _ _ _ _ c.answer_words-answer.result c.print.result c.answer_words-answer.ensures.answer c.print.ensures.status _ _ c.print.ensures.message

pub returns-clause-file_of_theory : goal.returns-clause-file_of_theory
returns-clause-file_of_theory g c = file_of_theory_from c.law_of_entries.ensures _ _ _ _ c.answer_words-answer.result c.print.result c.answer_words-answer.ensures.answer c.print.ensures.status _ _ c.print.ensures.message

pub returns-clause-file_of_check : goal.returns-clause-file_of_check
returns-clause-file_of_check g c = file_of_check_from c.law_of_entries.ensures _ _ _ _ c.answer_words-answer.result c.print.result c.answer_words-answer.ensures.answer c.print.ensures.status _ _ c.print.ensures.message

pub returns-clause-file_of_demo : goal.returns-clause-file_of_demo
returns-clause-file_of_demo g c = file_of_demo_from c.law_of_entries.ensures _ _ _ _ c.answer_words-answer.result c.print.result c.answer_words-answer.ensures.answer c.print.ensures.status _ _ c.print.ensures.message

pub returns-clause-sure : goal.returns-clause-sure
returns-clause-sure g c = sure_from c.law_of_entries.ensures _ _ _ _ c.answer_words-answer.result c.print.result c.answer_words-answer.ensures.answer c.print.ensures.status

pub returns-clause-calm : goal.returns-clause-calm
returns-clause-calm g c = calm_from c.law_of_entries.ensures _ _ _ _ c.answer_words-answer.result c.print.result c.answer_words-answer.ensures.answer c.print.ensures.status _ _ c.answer_words-answer.ensures.faults

pub returns-clause-complete : goal.returns-clause-complete
returns-clause-complete g c = λ command a b limits pick e over t d h end files is calm_l calm_o calm_e.
    complete_at c.law_of_entries.ensures _ _ _ _ c.answer_words-answer.result c.print.result c.answer_words-answer.ensures.answer c.print.ensures.status _ _ _ c.answer_words-answer.ensures.faults.rose (λ w. rose_where_failed _ _ _ _ _ (c.print.ensures.failed w)) calm_l calm_o calm_e c.law_of_history.ensures command a b limits pick e over t d h end files is

pub returns-clause-complete_check : goal.returns-clause-complete_check
returns-clause-complete_check g c = λ first second third a b x e ea eb ex t d files short good calm_l calm_o calm_e.
    complete_check_at c.law_of_entries.ensures _ _ _ _ c.answer_words-answer.result c.print.result c.answer_words-answer.ensures.answer c.print.ensures.status _ _ _ c.answer_words-answer.ensures.faults.rose (λ w. rose_where_failed _ _ _ _ _ (c.print.ensures.failed w)) calm_l calm_o calm_e (record { theories = c.theories_that_were_read_are_well_formed.ensures; diagrams = c.diagrams_that_were_read_are_well_formed.ensures }) c.law_of_refusal.ensures first second third a b x e ea eb ex t d files short good

pub returns-clause-complete_refusal : goal.returns-clause-complete_refusal
returns-clause-complete_refusal g c = λ first second third a b x e ea eb ex t d files short bad calm_l calm_o calm_e.
    complete_refusal_at c.law_of_entries.ensures _ _ _ _ c.answer_words-answer.result c.print.result c.answer_words-answer.ensures.answer c.print.ensures.status _ _ _ c.answer_words-answer.ensures.faults.rose (λ w. rose_where_failed _ _ _ _ _ (c.print.ensures.failed w)) calm_l calm_o calm_e first second third a b x e ea eb ex t d files short bad

pub returns-clause-complete_theory : goal.returns-clause-complete_theory
returns-clause-complete_theory g c = λ first a e ea cs read calm_l calm_o calm_e.
    complete_theory_at c.law_of_entries.ensures _ _ _ _ c.answer_words-answer.result c.print.result c.answer_words-answer.ensures.answer c.print.ensures.status _ _ _ c.answer_words-answer.ensures.faults.rose (λ w. rose_where_failed _ _ _ _ _ (c.print.ensures.failed w)) calm_l calm_o calm_e first a e ea cs read

pub returns-clause-only : goal.returns-clause-only
returns-clause-only g c = any_of _

pub returns-clause-complete_product : goal.returns-clause-complete_product
returns-clause-complete_product g c = λ first second a b budget weight place pick e ea eb chosen t d h log text found is short calm_l calm_o calm_e.
    complete_product_at c.law_of_entries.ensures _ _ _ _ c.answer_words-answer.result c.print.result c.answer_words-answer.ensures.answer c.print.ensures.status _ _ _ c.answer_words-answer.ensures.faults.rose (λ w. rose_where_failed _ _ _ _ _ (c.print.ensures.failed w)) calm_l calm_o calm_e c.law_of_history.ensures c.law_of_ancestry.ensures.one c.law_of_one_product.ensures first second a b budget weight place pick e ea eb chosen t d h log text found is short

pub returns-clause-complete_long : goal.returns-clause-complete_long
returns-clause-complete_long g c = λ first second a b budget weight place pick e ea eb chosen t d h log text found is long calm_l calm_o calm_e.
    complete_long_at c.law_of_entries.ensures _ _ _ _ c.answer_words-answer.result c.print.result c.answer_words-answer.ensures.answer c.print.ensures.status _ _ _ c.answer_words-answer.ensures.faults.rose (λ w. rose_where_failed _ _ _ _ _ (c.print.ensures.failed w)) calm_l calm_o calm_e c.law_of_history.ensures c.law_of_ancestry.ensures.one c.law_of_one_product.ensures first second a b budget weight place pick e ea eb chosen t d h log text found is long

pub returns-clause-usage : goal.returns-clause-usage
returns-clause-usage g c = usage_from c.law_of_entries.ensures _ _ _ _ c.answer_words-answer.result c.print.result c.answer_words-answer.ensures.answer c.print.ensures.status
