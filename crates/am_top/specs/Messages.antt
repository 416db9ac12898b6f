-- What is said where no text is printed.
use Rattle.std.specs.Prelude.{◌++◌, ℕ, List, [], ◌∷◌, codes}
use Rattle.std.specs.Fmt.{decimal}
use Rattle.am_text.specs.declared.fault.TextKind.{TextKind}
use Rattle.am_text.specs.declared.fault.TextKind.TheVariants as text
use Rattle.am_theory.specs.declared.fault.TheoryKind.{TheoryKind}
use Rattle.am_theory.specs.declared.fault.TheoryKind.TheVariants as theory
use Rattle.am_theory.specs.declared.fault.TheoryFault.{TheoryFault}
use Rattle.am_diagram.specs.declared.fault.DiagramKind.{DiagramKind}
use Rattle.am_diagram.specs.declared.fault.DiagramKind.TheVariants as diagram
use Rattle.am_diagram.specs.declared.fault.DiagramFault.{DiagramFault}
use Rattle.am_log.specs.declared.fault.LogKind.{LogKind}
use Rattle.am_log.specs.declared.fault.LogKind.TheVariants as log
use Rattle.am_fortran.specs.declared.fault.UnitKind.{UnitKind}
use Rattle.am_fortran.specs.declared.fault.UnitKind.TheVariants as unit
use Rattle.am_exec.specs.declared.fault.ExecKind.{ExecKind}
use Rattle.am_exec.specs.declared.fault.ExecKind.TheVariants as exec
use Rattle.am_check.specs.declared.reason.Reason.{Reason}
use Rattle.am_check.specs.declared.reason.Reason.TheVariants as reason
use Rattle.am_top.specs.declared.answer.File.{File}
use Rattle.am_top.specs.declared.answer.File.TheVariants as file

-- the words of each kind of fault
abbrev pub text_words : TextKind → List ℕ
text_words text.BadByte = codes "bad byte"
text_words text.Unclosed = codes "unclosed form"
text_words text.Unopened = codes "unopened parenthesis"
text_words text.TooDeep = codes "nested too deep"
text_words text.BadAtom = codes "bad atom"
text_words text.TooLong = codes "too long"
text_words text.NoMemory = codes "no memory"

abbrev pub theory_words : TheoryKind → List ℕ
theory_words (theory.Text k) = text_words k
theory_words theory.BadHead = codes "bad form"
theory_words theory.Version = codes "unknown version"
theory_words theory.UnknownName = codes "unknown name"
theory_words theory.Twice = codes "declared twice"
theory_words theory.BadSort = codes "bad sort"
theory_words theory.BadArity = codes "bad number of arguments"
theory_words theory.BadRep = codes "bad representation"
theory_words theory.NoCopy = codes "no copy routine"
theory_words theory.BadFortranName = codes "bad FORTRAN name"
theory_words theory.NameClash = codes "FORTRAN name used twice"
theory_words theory.Unbound = codes "unbound name"
theory_words theory.Quantifier = codes "quantifier inside a formula"
theory_words theory.Limit = codes "over a limit"
theory_words theory.NoMemory = codes "no memory"

abbrev pub diagram_words : DiagramKind → List ℕ
diagram_words (diagram.Text k) = text_words k
diagram_words diagram.BadHead = codes "bad form"
diagram_words diagram.UnknownName = codes "unknown name"
diagram_words diagram.Twice = codes "declared twice"
diagram_words diagram.BadSort = codes "bad sort"
diagram_words diagram.BadArity = codes "bad number of arguments"
diagram_words diagram.NotConcrete = codes "sort has no representation"
diagram_words diagram.BadFortranName = codes "bad FORTRAN name"
diagram_words diagram.ReservedName = codes "reserved name"
diagram_words diagram.Unbound = codes "unbound name"
diagram_words diagram.Limit = codes "over a limit"
diagram_words diagram.NoOutput = codes "no output"
diagram_words diagram.NoRequire = codes "no requirement"
diagram_words diagram.NoMemory = codes "no memory"

abbrev pub log_words : LogKind → List ℕ
log_words log.NotProof = codes "not a proof"
log_words log.BadWrap = codes "bad line"
log_words log.BadRow = codes "bad row"
log_words log.BadNumber = codes "bad row number"
log_words log.UnknownName = codes "unknown name"
log_words log.BadSort = codes "bad sort"
log_words log.NoMemory = codes "no memory"

abbrev pub unit_words : UnitKind → List ℕ
unit_words unit.Cut = codes "text is cut"
unit_words unit.BadStatement = codes "bad statement"
unit_words unit.Order = codes "statement out of order"
unit_words unit.NoMemory = codes "no memory"

abbrev pub exec_words : ExecKind → List ℕ
exec_words exec.UnknownRoutine = codes "unknown routine"
exec_words exec.WrongCount = codes "wrong number of arguments"
exec_words (exec.NotSet name) = name ++ codes " is not set"
exec_words exec.WrongSort = codes "wrong sort"
exec_words exec.SetTwice = codes "variable set twice"
exec_words exec.BadDeclaration = codes "bad declaration"
exec_words exec.OutputNotSet = codes "output not set"
exec_words exec.TooLarge = codes "term too large"
exec_words exec.NoMemory = codes "no memory"

-- the words of each reason why a text is refused
abbrev pub reason_words : Reason → List ℕ
reason_words (reason.Log k) = log_words k
reason_words reason.NoSuchParent = codes "no such parent"
reason_words reason.BadPlace = codes "bad place"
reason_words reason.BadBindings = codes "bad bindings"
reason_words reason.NotEqual = codes "parts differ"
reason_words reason.AnswersDiffer = codes "answers differ"
reason_words reason.WrongConclusion = codes "wrong conclusion"
reason_words reason.NotFinal = codes "proof is not finished"
reason_words (reason.Unit k) = unit_words k
reason_words (reason.Exec k) = exec_words k
reason_words reason.Differs = codes "program differs from proof"

-- the word by which a message names a file
abbrev pub word_for : File → List ℕ
word_for file.Theory = codes "theory"
word_for file.Diagram = codes "diagram"
word_for file.Text = codes "text"

-- `amphion: FILE: byte P: KIND`
abbrev pub at_byte : File → ℕ → List ℕ → List ℕ
at_byte f place words = codes "amphion: " ++ word_for f ++ codes ": byte " ++ decimal place ++ codes ": " ++ words ++ 10 ∷ []

-- `amphion: FILE: longer than LIMIT bytes`
abbrev pub longer : File → ℕ → List ℕ
longer f limit = codes "amphion: " ++ word_for f ++ codes ": longer than " ++ decimal limit ++ codes " bytes" ++ 10 ∷ []

-- a fault by its place and the words of its kind
unfoldable pub theory_message : TheoryFault → List ℕ
theory_message f = at_byte file.Theory f.place (theory_words f.kind)

unfoldable pub diagram_message : DiagramFault → List ℕ
diagram_message f = at_byte file.Diagram f.place (diagram_words f.kind)

-- `amphion: budget of N inferences used up`
abbrev pub spent_message : ℕ → List ℕ
spent_message budget = codes "amphion: budget of " ++ decimal budget ++ codes " inferences used up" ++ 10 ∷ []

-- `amphion: nothing left after K inferences`
abbrev pub exhausted_message : ℕ → List ℕ
exhausted_message made = codes "amphion: nothing left after " ++ decimal made ++ codes " inferences" ++ 10 ∷ []

-- `amphion: givens and axioms contradict after K inferences`
abbrev pub contradiction_message : ℕ → List ℕ
contradiction_message made = codes "amphion: givens and axioms contradict after " ++ decimal made ++ codes " inferences" ++ 10 ∷ []

-- `amphion: printed text longer than LIMIT bytes`
abbrev pub long_message : ℕ → List ℕ
long_message limit = codes "amphion: printed text longer than " ++ decimal limit ++ codes " bytes" ++ 10 ∷ []

-- `amphion: refused at line L: REASON`
unfoldable pub refused_message : ℕ → Reason → List ℕ
refused_message line why = codes "amphion: refused at line " ++ decimal line ++ codes ": " ++ reason_words why ++ 10 ∷ []

-- `amphion: cannot read FILE`
abbrev pub cannot_read : File → List ℕ
cannot_read file.Theory = codes "amphion: cannot read theory" ++ 10 ∷ []
cannot_read file.Diagram = codes "amphion: cannot read diagram" ++ 10 ∷ []
cannot_read file.Text = codes "amphion: cannot read text" ++ 10 ∷ []

abbrev pub cannot_write : List ℕ
cannot_write = codes "amphion: cannot write" ++ 10 ∷ []

abbrev pub no_memory_text : List ℕ
no_memory_text = codes "amphion: no memory" ++ 10 ∷ []

-- `accepted`
abbrev pub accepted_text : List ℕ
accepted_text = codes "accepted" ++ 10 ∷ []

-- how the program is called
abbrev pub usage : List ℕ
usage =
    codes "usage: amphion make THEORY DIAGRAM [--budget N] [--weight W] [--choose weight|age|mixed]" ++ 10
    ∷ codes "       amphion check THEORY DIAGRAM TEXT" ++ 10
    ∷ codes "       amphion theory THEORY" ++ 10
    ∷ codes "       amphion demo K" ++ 10 ∷ []
