-- What a call gives that writes a text into a lent buffer.
use Rattle.std.specs.Prelude.{◌≡◌, ℕ, ◌≤◌, Bool, true, cond, List, ◌++◌, length, drop, Ok, Err, Result, is_ok, IfOk, nat_le}
use Rattle.writer.specs.declared.fault.WriteFault.{WriteFault}
use Rattle.writer.specs.declared.fault.WriteFault.TheVariants.{Cramped}

-- the number under which a fault of writing is reported
abbrev pub write_number : WriteFault → ℕ
write_number Cramped = 17

-- a buffer with the text at its start, and behind it what stood there
abbrev pub laid : List ℕ → List ℕ → List ℕ
laid bytes buffer = bytes ++ drop (length bytes) buffer

-- the buffer is long enough for the text
abbrev pub fits : List ℕ → List ℕ → Bool
fits bytes buffer = nat_le (length bytes) (length buffer)

-- the answer: the length of the text, or that the buffer is too short
abbrev pub answer : List ℕ → List ℕ → Result ℕ WriteFault
answer bytes buffer = cond (fits bytes buffer) (Ok (length bytes)) (Err Cramped)

-- what the buffer holds then: it is as before where the text does not fit
abbrev pub filled : List ℕ → List ℕ → List ℕ
filled bytes buffer = cond (fits bytes buffer) (laid bytes buffer) buffer

-- a buffer of so many bytes is long enough; what is written lies within the buffer
abbrev pub RoomFor : ℕ → List ℕ → Result ℕ WriteFault → Type 0
RoomFor most out r = (most ≤ length out → is_ok r ≡ true) × IfOk r (λ len. len ≤ length out)
