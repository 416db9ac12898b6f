-- What an answer of the scan says of the grammar.
use Rattle.std.proofs.Common.{ℕ, List, Result, Ok, Err, IfOk, sym, ◌∙◌, inl, inr}
use Rattle.am_text.specs.declared.fault.TextFault.{TextFault}
use Rattle.am_text.specs.declared.form.Form.{Form}
use Rattle.am_text.specs.Answers.{IsAnswer}
use Rattle.am_text.specs.Scan.{read}
use Rattle.am_text.specs.Grammar.{ReadsWithin}
use Rattle.am_text.proofs.Found.{read_found}
use Rattle.am_text.proofs.Converse.{read_again}

pub answer_found : (limit depth : ℕ) (bytes : List ℕ) (r : Result (List Form) TextFault) → IsAnswer r (read limit depth bytes) → IfOk r (ReadsWithin limit depth bytes)
answer_found limit depth bytes (Ok fs) a = read_found limit depth bytes fs a
answer_found limit depth bytes (Err f) a = tt

pub answer_only : (limit depth : ℕ) (bytes : List ℕ) (r : Result (List Form) TextFault) (fs : List Form) → IsAnswer r (read limit depth bytes) → ReadsWithin limit depth bytes fs → IsAnswer r (Ok fs)
answer_only limit depth bytes (Ok gs) fs a g = sym (read_again limit depth bytes fs g) ∙ a
answer_only limit depth bytes (Err f) fs (inl e) g = inl e
answer_only limit depth bytes (Err f) fs (inr e) g = inr (sym (read_again limit depth bytes fs g) ∙ e)
