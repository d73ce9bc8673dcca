-- What a handle on the cache folder was asked to change, and what it read last. This project's own.
use Rattle.std.specs.Prelude.{ℕ, List, [], ◌∷◌, ◌++◌, ◌≡◌, length, Option, Some, None, option_map, option_and_then, IfSome}
use Rattle.sha2.specs.Sha256.{sha256}
use Rattle.conda_path.specs.declared.slot.SlotKey.{SlotKey}
use Rattle.conda_path.specs.declared.values.Digest.{Digest}
use Rattle.conda_device.specs.declared.touched.Got.{Got}
use Rattle.conda_device.specs.declared.touched.Touch.{Touch}
use Rattle.conda_device.specs.declared.touched.Touched.{Touched}

-- what a handle tells of itself: all that it was asked to change, in order, and its last read that answered Ok, where there was one
pub record StoreState : Type 0 where
  pub touched : List Touched
  pub got : Option Got

-- the handle was asked to change nothing, and has read nothing
abbrev pub IsFresh : Option StoreState → Type 0
IsFresh told = IfSome told (λ state. state ≡ record { touched = []; got = None })

-- the SHA-256 digest of bytes (FIPS 180-4)
abbrev pub digest_of : List ℕ → Digest
digest_of bytes = record { bytes = sha256 bytes }

-- ---- what a call asks to change

abbrev pub write_of : SlotKey → List ℕ → List ℕ → Touched
write_of key path bytes = record { key = key; touch = Touch.Write path (length bytes) (digest_of bytes) }

abbrev pub mark_of : SlotKey → Touched
mark_of key = record { key = key; touch = Touch.Mark }

abbrev pub erase_of : SlotKey → Touched
erase_of key = record { key = key; touch = Touch.Erase }

-- with this change at the end
abbrev pub touched_too : Touched → StoreState → StoreState
touched_too touched state = record { touched = state.touched ++ touched ∷ []; got = state.got }

-- the same of what is told
abbrev pub with_touched : Option StoreState → Touched → Option StoreState
with_touched told touched = option_map (touched_too touched) told

-- ---- what a read gives

-- the size and the digest of the bytes, where some were given
abbrev pub found_of : Option (List ℕ) → Option (ℕ × Digest)
found_of read = option_map (λ bytes. (length bytes, digest_of bytes)) read

-- the read of this file, of at most so many bytes, that gave these bytes or found nothing
abbrev pub got_of : SlotKey → List ℕ → ℕ → Option (List ℕ) → Got
got_of key path max read = record { key = key; path = path; max = max; found = found_of read }

-- with this as the last read
abbrev pub got_last : Got → StoreState → StoreState
got_last got state = record { touched = state.touched; got = Some got }

-- the same of what is told
abbrev pub with_got : Option StoreState → Got → Option StoreState
with_got told got = option_map (got_last got) told

-- the last read, where it is told and there was one
abbrev pub last_got : Option StoreState → Option Got
last_got told = option_and_then (λ state. state.got) told
