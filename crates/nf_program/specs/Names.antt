-- How a name is kept: its bytes at the front of 32, and how many there are. Contracts see only the bytes.
use Rattle.std.specs.Prelude.{◌≡◌, ℕ, ◌-◌, ◌≤◌, List, ◌++◌, length, take, replicate}
use Rattle.nf_program.specs.declared.items.Name.TheInside.{Inside}

-- the bytes of the name
abbrev pub bytes_of : Inside → List ℕ
bytes_of n = take n.len n.all

-- these bytes and then zeros
abbrev pub filled : List ℕ → List ℕ
filled bs = bs ++ replicate (32 - length bs) 0

-- the name of these bytes
abbrev pub from_bytes : List ℕ → Inside
from_bytes bs = record { all = filled bs; len = length bs }

-- A name has 1 to 32 bytes, and zeros after them.
pub record IsName (n : Inside) : Type 0 where
  pub some : 1 ≤ n.len
  pub short : n.len ≤ 32
  pub length_is : length (bytes_of n) ≡ n.len
  pub bytes_are : filled (bytes_of n) ≡ n.all

-- The bytes of a name give it back.
pub gives_back : (n : Inside) → IsName n → from_bytes (bytes_of n) ≡ n
gives_back n h = λ i. record { all = h.bytes_are i; len = h.length_is i }
