-- Listening, receives and replies: what begin and step leave.
use Rattle.std.specs.Prelude.{List, [], ℕ, length}
use Rattle.images.specs.Numbers.{listen_entry, respond_to_write_entry, respond_to_read_entry}
use Rattle.slave.specs.declared.state.Kind.TheVariants.{Listen, RespondToWrite, RespondToRead}
use Rattle.calls.specs.Response.{response_on, response_begin}
use Rattle.call.specs.Left.{Left, begin_left, step_left}

abbrev pub listen_begin : List ℕ → ℕ → Left
listen_begin block chip = begin_left [] (response_begin 0 chip Listen block) []

abbrev pub listen_step : List ℕ → ℕ → Left
listen_step block a = step_left (response_on 0 listen_entry) [] block [] a

abbrev pub respond_to_write_begin : List ℕ → ℕ → List ℕ → Left
respond_to_write_begin block chip buffer = begin_left [] (response_begin (length buffer) chip RespondToWrite block) buffer

abbrev pub respond_to_write_step : List ℕ → List ℕ → ℕ → Left
respond_to_write_step block buffer a = step_left (response_on (length buffer) respond_to_write_entry) [] block buffer a

abbrev pub respond_to_read_begin : List ℕ → ℕ → List ℕ → Left
respond_to_read_begin block chip reply = begin_left reply (response_begin (length reply) chip RespondToRead block) []

abbrev pub respond_to_read_step : List ℕ → List ℕ → ℕ → Left
respond_to_read_step block reply a = step_left (response_on (length reply) respond_to_read_entry) reply block [] a
