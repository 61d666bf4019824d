-- How a call is to end, in the words of its block: the error's number in byte 7, the value in bytes 22 and 23, the extra number in bytes 30
-- and 31.
use Rattle.std.specs.Prelude.{ℕ, ◌≡◌, Bool, List, get_or, set}
use Rattle.access.specs.Endings.{Ending, ending_of, ending_error, ending_value, ending_extra, is_ending, is_plain}
use Rattle.access.specs.declared.ending.Words.{Words}
use Rattle.errors.specs.Met.{has_failed}
use Rattle.block.specs.declared.fields.Fields.{Fields}
use Rattle.block.specs.Bytes32.{word_at, with_word}
use Rattle.images.specs.Numbers.{chip_of}

-- the words of an end in a block
abbrev pub words_at : List ℕ → Words
words_at b = record { error = get_or b 7 0; value = word_at b 22; extra = word_at b 30 }

-- the ending that a block says, and whether its words are an ending's
abbrev pub ending_at : List ℕ → Ending
ending_at b = ending_of (get_or b 7 0) (word_at b 22) (word_at b 30)

abbrev pub is_ending_at : List ℕ → Bool
is_ending_at b = is_ending (get_or b 7 0) (word_at b 22) (word_at b 30)

abbrev pub is_plain_at : List ℕ → Bool
is_plain_at b = is_plain (get_or b 7 0) (word_at b 22)

-- an error that a call of the block's chip can meet, as a master (`nack`) or a slave
abbrev pub has_failed_at : Bool → List ℕ → Bool
has_failed_at nack b = has_failed (chip_of (get_or b 1 0)) nack (ending_at b)

-- a block whose words are those of the ending e
pub record KeepsEnd (b : List ℕ) (e : Ending) : Type 0 where
  pub error : get_or b 7 0 ≡ ending_error e
  pub value : word_at b 22 ≡ ending_value e
  pub extra : word_at b 30 ≡ ending_extra e

-- what a block says, with another ending
abbrev pub with_end : Ending → Fields → Fields
with_end e f = record { entry = f.entry; chip = f.chip; option = f.option; stage = f.stage; what = f.what; phase = f.phase; marks = f.marks; error = ending_error e; address = f.address; run = f.run; left = f.left; place = f.place; word = f.word; divider = f.divider; rise = f.rise; value = ending_value e; count = f.count; second = f.second; mhz = f.mhz; extra = ending_extra e }

-- a block, with another ending
abbrev pub with_ending : Ending → List ℕ → List ℕ
with_ending e b = with_word (with_word (set b 7 (ending_error e)) 22 (ending_value e)) 30 (ending_extra e)
