-- Names among two lists.
use Rattle.std.proofs.Common.{◌≡◌, ℕ, List, ◌++◌}
use Rattle.std.specs.Prelude.{◌||◌}
use Rattle.std.specs.Str.{bytes_eq}
use Rattle.std.proofs.lemmas.List.Folds.{list_any-append}
use Rattle.am_term.specs.NameLists.{is_among}

pub among-joined : (n : List ℕ) (ns ks : List (List ℕ)) → is_among n (ns ++ ks) ≡ (is_among n ns || is_among n ks)
among-joined n ns ks = list_any-append (bytes_eq n) ns ks

pub ruleset joined_names = (among-joined)
