-- Layer 1: the blocking master of src/i2c.rs, one definition for each function, in its order except that callees come first. From two
-- places on the text is over parts that stand above it under the same names: those are the Rust's, and Ours.antt has others.
use Rattle.std.specs.Prelude.{Bool, true, false, cond, not, ◌&&◌, ◌||◌, List, [], ◌∷◌, ℕ, zero, suc, ◌+◌, ◌^◌, eqb, leb, ltb, length}
use Rattle.registers.specs.declared.chip.Chip.{Chip}
use Rattle.registers.specs.declared.register.Register.TheVariants.{Ctlr1, Ctlr2, Datar, Star1, Star2, Ckcfgr, Rtr}
use Rattle.registers.specs.Bits.{PE, START, STOP, ACK, POS, SWRST, ITERREN, ITEVTEN, ITBUFEN, DMAEN, LAST, SB, ADDR, BTF, RXNE, TXE, BERR, ARLO, AF, OVR, PECERR, TIMEOUT, MSL}
use Rattle.registers.specs.Fields.{FREQ, DATA}
use Rattle.registers.specs.Word.{has_bit, put_bit, field_of, put_field}
use Rattle.registers.specs.Flags.{error_flags, clear_error}
use Rattle.registers.specs.Addresses.{address_word}
use Rattle.access.specs.declared.ending.Error.{Error}
use Rattle.access.specs.declared.ending.Error.TheVariants.{Bus, Arbitration, Nack, Timeout, Crc, Overrun, BufferTooLong, InvalidAddress}
use Rattle.access.specs.Endings.{failure_of}
use Rattle.access.specs.Program.{Blocking, pure, throw, read_register, write_register, modify, send_data, store, when◌then◌else◌, only_if, or_else, on_drop, while, for_each, check_timeout, ◌>>◌, ◌>>=◌}
use Rattle.master.specs.declared.call.FrameOptions.{FrameOptions}
use Rattle.master.specs.declared.call.FrameOptions.TheVariants.{FirstAndLastFrame, FirstFrame, FirstAndNextFrame, NextFrame, LastFrame, LastFrameNoStop}
use Rattle.master.specs.declared.call.Frame.{Frame}

-- embedded-hal's `Operation`: the bytes to write, or how many are to be read
pub data Operation : Type 0 where
  Write : List ℕ → Operation
  Read : ℕ → Operation

-- `Err(error)`
abbrev pub fail : {A : Type 0} → Error → Blocking A
fail e = throw (failure_of e)

-- `is_empty()`
abbrev pub is_empty {ℓ} : {A : Type ℓ} → List A → Bool
is_empty [] = true
is_empty (x ∷ xs) = false

-- ---- impl FrameOptions

abbrev pub sends_start : FrameOptions → Bool
sends_start FirstAndLastFrame = true
sends_start FirstFrame = true
sends_start FirstAndNextFrame = true
sends_start NextFrame = false
sends_start LastFrame = false
sends_start LastFrameNoStop = false

abbrev pub sends_stop : FrameOptions → Bool
sends_stop FirstAndLastFrame = true
sends_stop LastFrame = true
sends_stop FirstFrame = false
sends_stop FirstAndNextFrame = false
sends_stop NextFrame = false
sends_stop LastFrameNoStop = false

abbrev pub sends_nack : FrameOptions → Bool
sends_nack FirstAndLastFrame = true
sends_nack FirstFrame = true
sends_nack LastFrame = true
sends_nack LastFrameNoStop = true
sends_nack FirstAndNextFrame = false
sends_nack NextFrame = false

-- the three answers together: the functions below ask `frame.send_start` where the Rust asks `frame.send_start()`
abbrev pub frame : FrameOptions → Frame
frame f = record { send_start = sends_start f; send_stop = sends_stop f; send_nack = sends_nack f }

-- `matches!(operation, Operation::Read(_))`
abbrev pub is_read : Operation → Bool
is_read (Write bytes) = false
is_read (Read size) = true

-- `let count = operations.iter().take_while(|op| matches!(op, Operation::Read(_)) == read).count();`
-- `let (group, rest) = operations.split_at_mut(count);`
abbrev pub group_of : Bool → List Operation → List Operation
group_of read [] = []
group_of true (Write bytes ∷ operations) = []
group_of true (Read size ∷ operations) = Read size ∷ group_of true operations
group_of false (Write bytes ∷ operations) = Write bytes ∷ group_of false operations
group_of false (Read size ∷ operations) = []

abbrev pub rest_of : Bool → List Operation → List Operation
rest_of read [] = []
rest_of true (Write bytes ∷ operations) = Write bytes ∷ operations
rest_of true (Read size ∷ operations) = rest_of true operations
rest_of false (Write bytes ∷ operations) = rest_of false operations
rest_of false (Read size ∷ operations) = Read size ∷ operations

-- the buffers of a group of writes, and the lengths of a group of reads
abbrev pub buffers_of : List Operation → List (List ℕ)
buffers_of [] = []
buffers_of (Write bytes ∷ operations) = bytes ∷ buffers_of operations
buffers_of (Read size ∷ operations) = buffers_of operations

abbrev pub lengths_of : List Operation → List ℕ
lengths_of [] = []
lengths_of (Write bytes ∷ operations) = lengths_of operations
lengths_of (Read size ∷ operations) = size ∷ lengths_of operations

abbrev pub sum : List ℕ → ℕ
sum [] = 0
sum (n ∷ ns) = n + sum ns

-- `match (first, stop)`
abbrev pub frame_of : Bool → Bool → FrameOptions
frame_of true true = FirstAndLastFrame
frame_of true false = FirstFrame
frame_of false true = LastFrame
frame_of false false = NextFrame

module _ (chip : Chip) where
  unfoldable pub generate_stop : Blocking (Unit {0})
  generate_stop = modify Ctlr1 (put_bit STOP true)

  unfoldable pub finish_transfer : Blocking (Unit {0})
  finish_transfer = modify Ctlr2 (λ w. put_bit LAST false (put_bit ITBUFEN false (put_bit ITEVTEN false (put_bit ITERREN false (put_bit DMAEN false w)))))

  unfoldable pub abort_transfer : Blocking (Unit {0})
  abort_transfer = do
    finish_transfer
    control ← read_register Ctlr1
    when has_bit START control || has_bit STOP control
        then (do
          ctlr2 ← read_register Ctlr2
          let frequency = field_of FREQ ctlr2
          divider ← read_register Ckcfgr
          rise ← when chip.i2c_v3 then read_register Rtr else pure 0
          write_register Ctlr1 (put_bit SWRST true 0)
          write_register Ctlr1 (put_bit SWRST false 0)
          write_register Ctlr2 (put_field FREQ frequency 0)
          write_register Ckcfgr divider
          only_if chip.i2c_v3 (write_register Rtr rise)
          write_register Ctlr1 (put_bit PE true 0))
        else (do
          star2 ← read_register Star2
          only_if (has_bit MSL star2) generate_stop)

  unfoldable pub validate_address : ℕ → Blocking (Unit {0})
  validate_address address = when ltb 0x7f address then fail InvalidAddress else pure tt

  unfoldable pub wait_stop_finished : Blocking (Unit {0})
  wait_stop_finished =
      while
      (do
        ctlr1 ← read_register Ctlr1
        pure (has_bit STOP ctlr1))
      check_timeout

  unfoldable pub launch_start : Bool → Blocking (Unit {0})
  launch_start ack = do
    wait_stop_finished
    going ← or_else
        (do
          ctlr1 ← read_register Ctlr1
          pure (has_bit START ctlr1))
        (do
          star1 ← read_register Star1
          pure (has_bit SB star1))
    only_if (not going) (modify Ctlr1 (λ w. cond ack (put_bit ACK true (put_bit START true w)) (put_bit START true w)))

  -- `total.checked_add(length).ok_or(Error::BufferTooLong)?`, with the 32-bit `usize` of these chips
  unfoldable pub checked_add : ℕ → ℕ → Blocking ℕ
  checked_add total n = when ltb (total + n) (2 ^ 32) then pure (total + n) else fail BufferTooLong

  -- `for operation in operations { .. }` of `validate_operations`, over `total`
  unfoldable pub validate_from : ℕ → List Operation → Bool → Blocking (Unit {0})
  validate_from total [] dma = pure tt
  validate_from total (Read size ∷ operations) dma = do
    only_if (eqb size 0) (fail Overrun)
    only_if (dma && ltb 65535 size) (fail BufferTooLong)
    total ← checked_add total size
    validate_from total operations dma
  validate_from total (Write bytes ∷ operations) dma = do
    only_if (dma && ltb 65535 (length bytes)) (fail BufferTooLong)
    total ← checked_add total (length bytes)
    validate_from total operations dma

  unfoldable pub validate_operations : List Operation → Bool → Blocking (Unit {0})
  validate_operations operations dma = validate_from 0 operations dma

  unfoldable pub check_and_clear_error_flags : Blocking ℕ
  check_and_clear_error_flags = do
    status ← read_register Star1
    let observed = error_flags status
    only_if (not (eqb observed 0)) (write_register Star1 (clear_error observed))
    only_if (has_bit ARLO status) (fail Arbitration)
    only_if (chip.i2c_v3 && has_bit TIMEOUT status) (fail Timeout)
    only_if (has_bit PECERR status) (fail Crc)
    only_if (has_bit OVR status) (fail Overrun)
    only_if (has_bit AF status) (fail Nack)
    only_if (chip.ch32v4 && has_bit BERR status) (fail Bus)
    pure status

  -- from here on over any error check; the Rust's stands above
  module _ (check_and_clear_error_flags : Blocking ℕ) where
    -- `while !Self::check_and_clear_error_flags()?.flag() { timeout.check().ok_or(Error::Timeout)?; }`
    unfoldable pub wait_flag : ℕ → Blocking (Unit {0})
    wait_flag flag =
        while
        (do
          status ← check_and_clear_error_flags
          pure (not (has_bit flag status)))
        check_timeout

    unfoldable pub send_byte : ℕ → Blocking (Unit {0})
    send_byte byte = do
      wait_flag TXE
      send_data byte
      wait_flag BTF

    -- the lines of `write_bytes` and of `blocking_read_iter` between START and ADDR
    unfoldable pub start_and_address : Bool → ℕ → Blocking (Unit {0})
    start_and_address read addr = do
      launch_start read
      wait_flag SB
      lost ← or_else
          (do
            ctlr1 ← read_register Ctlr1
            pure (has_bit START ctlr1))
          (do
            star2 ← read_register Star2
            pure (not (has_bit MSL star2)))
      only_if lost (fail Arbitration)
      write_register Datar (address_word addr read)
      wait_flag ADDR

    unfoldable pub recv_byte : Blocking ℕ
    recv_byte = do
      while
          (do
            check_and_clear_error_flags
            star1 ← read_register Star1
            pure (not (has_bit RXNE star1)))
          check_timeout
      datar ← read_register Datar
      pure (field_of DATA datar)

    unfoldable pub wait_btf : Blocking (Unit {0})
    wait_btf = wait_flag BTF

    -- `*buffer.next().unwrap() = self.recv_byte(timeout)?;`
    unfoldable pub recv_next : Blocking (Unit {0})
    recv_next = do
      value ← recv_byte
      store value

    -- `*buffer.next().unwrap() = regs.datar().read().datar();`
    unfoldable pub take_next : Blocking (Unit {0})
    take_next = do
      datar ← read_register Datar
      store (field_of DATA datar)

    -- `for value in buffer { *value = self.recv_byte(timeout)?; }`
    unfoldable pub recv_all : ℕ → Blocking (Unit {0})
    recv_all zero = pure tt
    recv_all (suc n) = do
      recv_next
      recv_all n

    -- `while remaining > 3 { *buffer.next().unwrap() = self.recv_byte(timeout)?; remaining -= 1; }`
    unfoldable pub recv_above_3 : ℕ → Blocking ℕ
    recv_above_3 zero = pure 0
    recv_above_3 (suc zero) = pure 1
    recv_above_3 (suc (suc zero)) = pure 2
    recv_above_3 (suc (suc (suc zero))) = pure 3
    recv_above_3 (suc (suc (suc (suc n)))) = do
      recv_next
      recv_above_3 (suc (suc (suc n)))

    -- and over any of these two
    module _ (validate_address : ℕ → Blocking (Unit {0})) (start_and_address : Bool → ℕ → Blocking (Unit {0})) where
      unfoldable pub write_bytes : ℕ → List ℕ → Frame → Blocking (Unit {0})
      write_bytes addr bytes frame = do
        validate_address addr
        on_drop abort_transfer (do
          only_if frame.send_start (do
            start_and_address false addr
            star2 ← read_register Star2
            pure tt)
          for_each bytes send_byte
          only_if frame.send_stop (do
            modify Ctlr1 (put_bit STOP true)
            wait_stop_finished))

      -- the buffer is known by how many bytes it takes
      unfoldable pub blocking_read_iter : ℕ → ℕ → Frame → Blocking (Unit {0})
      blocking_read_iter addr remaining frame = do
        validate_address addr
        only_if (eqb remaining 0) (fail Overrun)
        on_drop abort_transfer (do
          modify Ctlr1 (put_bit POS (eqb remaining 2 && frame.send_nack))
          only_if frame.send_start (do
            start_and_address true addr
            only_if (leb remaining 2 && frame.send_nack) (modify Ctlr1 (put_bit ACK false))
            star2 ← read_register Star2
            when eqb remaining 1 && frame.send_stop
                then generate_stop
                else only_if (eqb remaining 1 && frame.send_nack) (modify Ctlr1 (put_bit START true)))
          when not frame.send_nack
              then recv_all remaining
              else (when eqb remaining 1
              then recv_next
              else (do
                remaining ← recv_above_3 remaining
                wait_btf
                only_if (eqb remaining 3) (do
                  modify Ctlr1 (put_bit ACK false)
                  take_next
                  wait_btf)
                when frame.send_stop then generate_stop else modify Ctlr1 (put_bit START true)
                take_next
                take_next))
          only_if frame.send_stop (do
            wait_stop_finished
            modify Ctlr1 (put_bit POS false)))

      unfoldable pub blocking_read_timeout : ℕ → ℕ → Frame → Blocking (Unit {0})
      blocking_read_timeout addr size frame = blocking_read_iter addr size frame

      unfoldable pub blocking_read : ℕ → ℕ → Blocking (Unit {0})
      blocking_read addr size = blocking_read_timeout addr size (frame FirstAndLastFrame)

      unfoldable pub blocking_write : ℕ → List ℕ → Blocking (Unit {0})
      blocking_write addr bytes = write_bytes addr bytes (frame FirstAndLastFrame)

      unfoldable pub blocking_write_read : ℕ → List ℕ → ℕ → Blocking (Unit {0})
      blocking_write_read addr bytes size = do
        only_if (eqb size 0) (fail Overrun)
        write_bytes addr bytes (frame FirstFrame)
        blocking_read_timeout addr size (frame FirstAndLastFrame)

      -- `for (index, operation) in group.iter().enumerate()`: `first` is `index == 0`, and `index + 1 == count` where no buffer follows
      unfoldable pub write_group : ℕ → Bool → List (List ℕ) → Bool → Blocking (Unit {0})
      write_group addr first [] last = pure tt
      write_group addr first (bytes ∷ group) last = do
        let stop = last && is_empty group
        write_bytes addr bytes (frame (frame_of first stop))
        write_group addr false group last

      -- `while !operations.is_empty() { .. operations = rest; }`: each turn takes an operation away, so as many turns are enough
      unfoldable pub transact : ℕ → ℕ → List Operation → Blocking (Unit {0})
      transact addr zero operations = pure tt
      transact addr (suc turns) [] = pure tt
      transact addr (suc turns) (operation ∷ operations) = do
        let read = is_read operation
        let group = group_of read (operation ∷ operations)
        let rest = rest_of read (operation ∷ operations)
        when read
            then blocking_read_iter addr (sum (lengths_of group)) (frame (cond (is_empty rest) FirstAndLastFrame FirstFrame))
            else write_group addr true (buffers_of group) (is_empty rest)
        transact addr turns rest

      unfoldable pub blocking_transaction : ℕ → List Operation → Blocking (Unit {0})
      blocking_transaction addr operations = do
        validate_address addr
        validate_operations operations false
        transact addr (length operations) operations

-- ---- the Rust: the text with the Rust's own parts

pub record Parts : Type 0 where
  pub check : Blocking ℕ
  pub validate : ℕ → Blocking (Unit {0})
  pub start : Bool → ℕ → Blocking (Unit {0})

abbrev pub the_rust : Chip → Parts
the_rust chip = record { check = check_and_clear_error_flags chip; validate = validate_address chip; start = start_and_address chip (check_and_clear_error_flags chip) }
