-- What a reader answers: a value, or a fault of the bytes, or that memory is out.
use Rattle.std.specs.Prelude.{◌≡◌, ◌⊎◌, Result, Ok, Err}
use Rattle.am_text.specs.declared.fault.TextFault.{TextFault}
use Rattle.am_text.specs.declared.fault.TextKind.TheVariants.{NoMemory}
use Rattle.am_text.specs.declared.fault.ReadError.{ReadError}
use Rattle.am_text.specs.declared.fault.ReadError.TheVariants as errors

-- first one thing, and with what it gives another; the first fault stands
infixl 10 ◌>>=◌
abbrev pub ◌>>=◌ : {A B : Type 0} → Result A TextFault → (A → Result B TextFault) → Result B TextFault
(Ok x) >>= f = f x
(Err e) >>= f = Err e

-- an error: the end of memory may come at any time, a fault is that of the definition
abbrev pub Fails : {Y : Type 0} → ReadError → Result Y TextFault → Type 0
Fails errors.Memory read = Unit {0}
Fails (errors.Fault f) read = read ≡ Err f

-- what a step returned is what its definition gives, unless memory ran out
abbrev pub Gives : {X Y : Type 0} → (X → Y) → Result X ReadError → Result Y TextFault → Type 0
Gives view (Ok x) read = read ≡ Ok (view x)
Gives view (Err e) read = Fails e read

-- the one fault that may come for any bytes
abbrev pub no_memory : TextFault
no_memory = record { place = 0; kind = NoMemory }

-- the answer of the whole is what its definition gives, or that memory is out
abbrev pub IsAnswer : {X : Type 0} → Result X TextFault → Result X TextFault → Type 0
IsAnswer (Ok x) read = read ≡ Ok x
IsAnswer (Err f) read = (f ≡ no_memory) ⊎ (read ≡ Err f)
