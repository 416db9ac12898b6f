use Rattle.am_term.proofs.Forest.{root-step, fits-akin, akin-same, akin-sym, akin-trans, akin-rooted, akin-joined, akin-joins}
use Rattle.am_term.proofs.laws.law_of_akin.Goals as goal

pub returns : goal.returns
returns c = record { root = root-step; rooted = akin-rooted; joined = akin-joined; joins = akin-joins; reflexive = akin-same; symmetric = akin-sym; transitive = akin-trans; fits = fits-akin }
