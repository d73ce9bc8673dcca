-- What a reader answers: a value, or what is wrong with the text, or that memory ran out.
use Rattle.std.specs.Prelude.{◌≡◌, Option, None, Some, IfSome, Result, Ok, Err}

-- the value that a text means, or its fault
abbrev pub Read : Type 0 → Type 0 → Type 0
Read A Fault = Result A Fault

-- the fault, or what is read next
infixl 10 ◌>>=◌
abbrev pub ◌>>=◌ : {A B Fault : Type 0} → Read A Fault → (A → Read B Fault) → Read B Fault
(Ok x) >>= next = next x
(Err fault) >>= next = Err fault

-- the value, unless there is a fault
abbrev pub unless : {A Fault : Type 0} → Option Fault → A → Read A Fault
unless None x = Ok x
unless (Some fault) x = Err fault

-- A reader answers what the text means. Of each error `fault_of` says which fault it names; an error that names none is want of memory,
-- which may always come.
abbrev pub Gives : {A Fault Error : Type 0} → (Error → Option Fault) → Result A Error → Read A Fault → Type 0
Gives fault_of (Ok x) read = read ≡ Ok x
Gives fault_of (Err error) read = IfSome (fault_of error) (λ fault. read ≡ Err fault)
