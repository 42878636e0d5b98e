-- What reading a file answers, by what the system answered.
-- Assumes nothing.
use Rattle.std.specs.Prelude.{ℕ, ◌≡◌, Bool, ◌&&◌, List, ℤ, pos}
use Rattle.std.specs.Int.Signed.{le_z}
use Rattle.swapreport.specs.declared.files.Got.{Got}

-- an answer of the system that is no failure
unfoldable pub succeeded : ℤ → Bool
succeeded z = le_z (pos 0) z

-- the file was opened, and the read after the last one did not fail
unfoldable pub is_readable : Got → Bool
is_readable g = succeeded g.opened && succeeded g.last

-- of a file that was not opened nothing was read, and the buffer is as it was
pub record Unread (g : Got) (before after : List ℕ) : Type 0 where
  pub none : g.length ≡ 0
  pub kept : after ≡ before
