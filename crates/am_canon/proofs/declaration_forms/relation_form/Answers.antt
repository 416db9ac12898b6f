use Rattle.std.proofs.Common.{refl}
use Rattle.am_canon.proofs.declaration_forms.relation_form.Goals as goal

pub returns : goal.returns
returns c = rw (c.list_form.ensures, c.in_ok-members-2.ensures, c.in_ok-members.ensures) refl
