-- Which error a fault of the text is.
use Rattle.std.specs.Prelude.{ℕ}
use Rattle.am_text.specs.declared.fault.TextKind.{TextKind}
use Rattle.am_text.specs.declared.fault.TextKind.TheVariants as text
use Rattle.am_theory.specs.declared.fault.ReadError.{ReadError}
use Rattle.am_theory.specs.declared.fault.ReadError.TheVariants.{Memory, Fault}
use Rattle.am_theory.specs.declared.fault.TheoryKind.TheVariants.{Text}

-- a fault of the text at a place; of its kinds one is the end of memory
abbrev pub text_error : ℕ → TextKind → ReadError
text_error p text.BadByte = Fault (record { place = p; kind = Text text.BadByte })
text_error p text.Unclosed = Fault (record { place = p; kind = Text text.Unclosed })
text_error p text.Unopened = Fault (record { place = p; kind = Text text.Unopened })
text_error p text.TooDeep = Fault (record { place = p; kind = Text text.TooDeep })
text_error p text.BadAtom = Fault (record { place = p; kind = Text text.BadAtom })
text_error p text.TooLong = Fault (record { place = p; kind = Text text.TooLong })
text_error p text.NoMemory = Memory
