-- Steps of making forms.
use Rattle.std.proofs.lemmas.List.{map_more, map_push}
use Rattle.std.proofs.lemmas.Grind.{common_steps}
use Rattle.am_text.specs.declared.form.FormNode.TheViews.{the_lemmas}

pub ruleset map_laws = (common_steps, the_lemmas, map_more, map_push)
