-- What a function leaves: what it hands out, the block, and the bytes read.
use Rattle.std.specs.Prelude.{◌≡◌, List, ℕ}
use Rattle.access.specs.declared.ending.Error.{Error}
use Rattle.access.specs.declared.next.Next.{Next}
use Rattle.access.specs.declared.next.Next.TheVariants as next
use Rattle.access.specs.Endings.{failed}
use Rattle.access.specs.Machine.{filled, kept}
use Rattle.access.specs.Numbers.{next_number, HoldsWords}
use Rattle.call.specs.OnBlock.{After, OnBlock, owed_in, step_on}

pub record Left : Type 0 where
  pub next : Next
  pub block : List ℕ
  pub read : List ℕ

abbrev pub left : Next → List ℕ → List ℕ → Left
left n b r = record { next = n; block = b; read = r }

-- a refusal changes nothing
abbrev pub refused_with : Error → List ℕ → List ℕ → Left
refused_with e b r = left (next.End (failed e)) b r

-- ---- what a call on a block leaves

-- begin, where these bytes are lent to send: the byte that is needed is put in
abbrev pub begin_left : List ℕ → After → List ℕ → Left
begin_left bytes x r = left (filled bytes x.need) x.block r

-- a step: the answer is stored if the block owed a byte to keep
abbrev pub step_left : OnBlock → List ℕ → List ℕ → List ℕ → ℕ → Left
step_left c bytes b r a = begin_left bytes (step_on c b a) (kept (owed_in c b) a r)

-- ---- what a function is held to

-- a function that returned the number n and left these bytes did what the definition says; the number tells what was handed out
pub record Leaves (h : Left) (n : ℕ) (b r : List ℕ) : Type 0 where
  pub number : n ≡ next_number h.next
  pub words : HoldsWords h.next
  pub block : b ≡ h.block
  pub read : r ≡ h.read

-- the same where nothing is lent to read
pub record LeavesBlock (h : Left) (n : ℕ) (b : List ℕ) : Type 0 where
  pub number : n ≡ next_number h.next
  pub words : HoldsWords h.next
  pub block : b ≡ h.block
