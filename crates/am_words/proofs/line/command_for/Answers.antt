use Rattle.clap.specs.Words.{app_of}
use Rattle.am_words.proofs.Builds.{built_up, if_ok}
use Rattle.am_words.proofs.line.command_for.Goals as goal

pub returns : goal.returns
returns c = if_ok c.option_all.result _ _ c.option_all.ensures (λ d e. built_up _ _ _ (app_of c.bare.result) (app_of c.in_ok-command.command) (app_of d) c.bare.ensures c.in_ok-command.ensures e)
