-- One text, two sets of parts: if the parts are alike, so is each function of Rust.antt. A proof has the form of its function.
-- Assumes nothing.
use mathlib.Core.Path.{◌≡◌}
use mathlib.Core.Bool.{Bool, true, false, cond, not, ◌&&◌, ◌||◌}
use mathlib.Core.List.{List, [], ◌∷◌}
use Prim.Native.Nat.{ℕ, zero, suc, ◌+◌, ◌^◌}
use lib.Dec.{eqb, leb, ltb}
use lib.ListN.{length}
use Rattle.registers.specs.declared.chip.Chip.{Chip}
use Rattle.registers.specs.declared.register.Register.TheVariants.{Ctlr1, Datar}
use Rattle.registers.specs.Bits.{START, STOP, ACK, SB, ADDR, RXNE, MSL}
use Rattle.registers.specs.Word.{has_bit, put_bit}
use Rattle.registers.specs.Addresses.{address_word}
use Rattle.access.specs.declared.ending.Error.{Error}
use Rattle.access.specs.declared.ending.Error.TheVariants.{Timeout, Arbitration}
use Rattle.master.specs.declared.call.Frame.{Frame}
use Rattle.master.specs.Rust.{Operation, Write, Read, is_read}
use Rattle.access.specs.Endings.{Ending, failure_of, failed}
use Rattle.access.specs.Program.{Access, Blocking, check_timeout}
use Rattle.master.specs.Rust.{fail, generate_stop, finish_transfer, abort_transfer, validate_address, wait_stop_finished, launch_start, checked_add, validate_from, validate_operations, wait_flag, send_byte, start_and_address, write_bytes, recv_byte, wait_btf, recv_next, take_next, recv_all, recv_above_3, blocking_read_iter, blocking_read_timeout, blocking_write_read, write_group, transact, blocking_transaction}
use Rattle.alike.specs.Like.{Alike}
use Rattle.alike.proofs.LikeLaws.{pure_alike, ◌>>=-alike◌, ◌>>-alike◌, read_alike, write_alike, modify_alike, send_alike, store_alike, if_alike, only_alike, or_alike, drop_alike, while_alike, each_alike, throw_alike, timeout_alike}

module _ (forget : Ending → Ending) (allowed : Access → ℕ → Bool) (fixed : (e : Error) → forget (failed e) ≡ failed e) (chip : Chip) where
  abbrev ◌≈◌ : {A : Type 0} → Blocking A → Blocking A → Type 0
  ◌≈◌ m m' = Alike forget allowed m m'

  infix 5 ◌≈◌
  -- ---- what needs none of the parts

  fail_alike : {A : Type 0} (e : Error) → fail {A = A} e ≈ fail e
  fail_alike e = throw_alike (failure_of e) (fixed e)

  time_alike : check_timeout ≈ check_timeout
  time_alike = timeout_alike (fixed Timeout)

  pub generate_stop_alike : generate_stop chip ≈ generate_stop chip
  unfolding generate_stop
  generate_stop_alike = modify_alike _ _

  finish_transfer_alike : finish_transfer chip ≈ finish_transfer chip
  unfolding finish_transfer
  finish_transfer_alike = modify_alike _ _

  pub abort_transfer_alike : abort_transfer chip ≈ abort_transfer chip
  unfolding abort_transfer
  abort_transfer_alike =
      finish_transfer_alike
      >>-alike (read_alike _ >>=-alike (λ control. if_alike (has_bit START control || has_bit STOP control)
      (read_alike _ >>=-alike (λ ctlr2. read_alike _ >>=-alike (λ divider. if_alike chip.i2c_v3 (read_alike _) (pure_alike _) >>=-alike (λ rise.
      write_alike _ _ >>-alike (write_alike _ _ >>-alike (write_alike _ _ >>-alike (write_alike _ _ >>-alike (only_alike chip.i2c_v3 (write_alike _ _) >>-alike write_alike _ _))))))))
      (read_alike _ >>=-alike (λ star2. only_alike (has_bit MSL star2) generate_stop_alike))))

  pub wait_stop_finished_alike : wait_stop_finished chip ≈ wait_stop_finished chip
  unfolding wait_stop_finished
  wait_stop_finished_alike = while_alike (read_alike _ >>=-alike (λ ctlr1. pure_alike (has_bit STOP ctlr1))) time_alike

  pub launch_start_alike : (ack : Bool) → launch_start chip ack ≈ launch_start chip ack
  unfolding launch_start
  launch_start_alike ack =
      wait_stop_finished_alike
      >>-alike (or_alike (read_alike _ >>=-alike (λ ctlr1. pure_alike (has_bit START ctlr1))) (read_alike _ >>=-alike (λ star1. pure_alike (has_bit SB star1)))
      >>=-alike (λ going. only_alike (not going) (modify_alike Ctlr1 (λ w. cond ack (put_bit ACK true (put_bit START true w)) (put_bit START true w)))))

  -- the Rust's refusals
  pub checked_add_alike : (total n : ℕ) → checked_add chip total n ≈ checked_add chip total n
  unfolding checked_add
  checked_add_alike total n = if_alike (ltb (total + n) (2 ^ 32)) (pure_alike _) (fail_alike _)

  validate_from_alike : (total : ℕ) (operations : List Operation) (dma : Bool) → validate_from chip total operations dma ≈ validate_from chip total operations dma
  unfolding validate_from
  validate_from_alike total [] dma = pure_alike _
  validate_from_alike total (Read size ∷ operations) dma =
      only_alike (eqb size 0) (fail_alike _) >>-alike (only_alike (dma && ltb 65535 size) (fail_alike _) >>-alike (checked_add_alike total size >>=-alike (λ total. validate_from_alike total operations dma)))
  validate_from_alike total (Write bytes ∷ operations) dma =
      only_alike (dma && ltb 65535 (length bytes)) (fail_alike _) >>-alike (checked_add_alike total (length bytes) >>=-alike (λ total. validate_from_alike total operations dma))

  validate_operations_alike : (operations : List Operation) (dma : Bool) → validate_operations chip operations dma ≈ validate_operations chip operations dma
  unfolding validate_operations
  validate_operations_alike operations dma = validate_from_alike 0 operations dma

  pub validate_address_alike : (address : ℕ) → validate_address chip address ≈ validate_address chip address
  unfolding validate_address
  validate_address_alike address = if_alike (ltb 0x7f address) (fail_alike _) (pure_alike _)

  -- ---- over the check

  module _ (check check' : Blocking ℕ) (check_alike : check ≈ check') where
    pub wait_flag_alike : (flag : ℕ) → wait_flag chip check flag ≈ wait_flag chip check' flag
    unfolding wait_flag
    wait_flag_alike flag = while_alike (check_alike >>=-alike (λ status. pure_alike (not (has_bit flag status)))) time_alike

    send_byte_alike : (byte : ℕ) → send_byte chip check byte ≈ send_byte chip check' byte
    unfolding send_byte
    send_byte_alike byte = wait_flag_alike _ >>-alike (send_alike _ >>-alike wait_flag_alike _)

    pub start_and_address_alike : (read : Bool) (address : ℕ) → start_and_address chip check read address ≈ start_and_address chip check' read address
    unfolding start_and_address
    start_and_address_alike read address =
        launch_start_alike read
        >>-alike (wait_flag_alike _
        >>-alike (or_alike (read_alike _ >>=-alike (λ ctlr1. pure_alike (has_bit START ctlr1))) (read_alike _ >>=-alike (λ star2. pure_alike (not (has_bit MSL star2))))
        >>=-alike (λ lost. only_alike lost (fail_alike Arbitration) >>-alike (write_alike Datar (address_word address read) >>-alike wait_flag_alike ADDR))))

    recv_byte_alike : recv_byte chip check ≈ recv_byte chip check'
    unfolding recv_byte
    recv_byte_alike =
        while_alike (check_alike >>-alike (read_alike _ >>=-alike (λ star1. pure_alike (not (has_bit RXNE star1))))) time_alike
        >>-alike (read_alike _ >>=-alike (λ datar. pure_alike _))

    wait_btf_alike : wait_btf chip check ≈ wait_btf chip check'
    unfolding wait_btf
    wait_btf_alike = wait_flag_alike _

    recv_next_alike : recv_next chip check ≈ recv_next chip check'
    unfolding recv_next
    recv_next_alike = recv_byte_alike >>=-alike (λ value. store_alike _)

    take_next_alike : take_next chip check ≈ take_next chip check'
    unfolding take_next
    take_next_alike = read_alike _ >>=-alike (λ datar. store_alike _)

    recv_all_alike : (n : ℕ) → recv_all chip check n ≈ recv_all chip check' n
    unfolding recv_all
    recv_all_alike zero = pure_alike _
    recv_all_alike (suc n) = recv_next_alike >>-alike recv_all_alike n

    recv_above_3_alike : (n : ℕ) → recv_above_3 chip check n ≈ recv_above_3 chip check' n
    unfolding recv_above_3
    recv_above_3_alike zero = pure_alike _
    recv_above_3_alike (suc zero) = pure_alike _
    recv_above_3_alike (suc (suc zero)) = pure_alike _
    recv_above_3_alike (suc (suc (suc zero))) = pure_alike _
    recv_above_3_alike (suc (suc (suc (suc n)))) = recv_next_alike >>-alike recv_above_3_alike (suc (suc (suc n)))

    -- ---- over all parts

    module _ (validate validate' : ℕ → Blocking (Unit {0})) (validate-alike : (address : ℕ) → validate address ≈ validate' address)
        (start start' : Bool → ℕ → Blocking (Unit {0})) (start-alike : (read : Bool) (address : ℕ) → start read address ≈ start' read address) where
      pub write_bytes_alike : (addr : ℕ) (bytes : List ℕ) (frame : Frame) → write_bytes chip check validate start addr bytes frame ≈ write_bytes chip check' validate' start' addr bytes frame
      unfolding write_bytes
      write_bytes_alike addr bytes frame =
          validate-alike addr
          >>-alike drop_alike abort_transfer_alike
          (only_alike frame.send_start (start-alike false addr >>-alike (read_alike _ >>=-alike (λ star2. pure_alike _)))
          >>-alike (each_alike bytes send_byte_alike
          >>-alike only_alike frame.send_stop (modify_alike _ _ >>-alike wait_stop_finished_alike)))

      pub blocking_read_iter_alike : (addr remaining : ℕ) (frame : Frame)
          → blocking_read_iter chip check validate start addr remaining frame ≈ blocking_read_iter chip check' validate' start' addr remaining frame
      unfolding blocking_read_iter
      blocking_read_iter_alike addr remaining frame =
          validate-alike addr
          >>-alike (only_alike (eqb remaining 0) (fail_alike _)
          >>-alike drop_alike abort_transfer_alike
          (modify_alike _ _
          >>-alike (only_alike frame.send_start (start-alike true addr
          >>-alike (only_alike (leb remaining 2 && frame.send_nack) (modify_alike _ _)
          >>-alike (read_alike _ >>=-alike (λ star2. if_alike (eqb remaining 1 && frame.send_stop) generate_stop_alike (only_alike (eqb remaining 1 && frame.send_nack) (modify_alike _ _))))))
          >>-alike (if_alike (not frame.send_nack) (recv_all_alike remaining)
          (if_alike (eqb remaining 1) recv_next_alike
          (recv_above_3_alike remaining >>=-alike (λ remaining. wait_btf_alike
          >>-alike (only_alike (eqb remaining 3) (modify_alike _ _ >>-alike (take_next_alike >>-alike wait_btf_alike))
          >>-alike (if_alike frame.send_stop generate_stop_alike (modify_alike _ _)
          >>-alike (take_next_alike >>-alike take_next_alike))))))
          >>-alike only_alike frame.send_stop (wait_stop_finished_alike >>-alike modify_alike _ _)))))

      pub blocking_read_timeout_alike : (addr size : ℕ) (frame : Frame)
          → blocking_read_timeout chip check validate start addr size frame ≈ blocking_read_timeout chip check' validate' start' addr size frame
      unfolding blocking_read_timeout
      blocking_read_timeout_alike addr size frame = blocking_read_iter_alike addr size frame

      pub blocking_write_read_alike : (addr : ℕ) (bytes : List ℕ) (size : ℕ)
          → blocking_write_read chip check validate start addr bytes size ≈ blocking_write_read chip check' validate' start' addr bytes size
      unfolding blocking_write_read
      blocking_write_read_alike addr bytes size = only_alike (eqb size 0) (fail_alike _) >>-alike (write_bytes_alike addr bytes _ >>-alike blocking_read_timeout_alike addr size _)

      write_group_alike : (addr : ℕ) (first : Bool) (group : List (List ℕ)) (last : Bool)
          → write_group chip check validate start addr first group last ≈ write_group chip check' validate' start' addr first group last
      unfolding write_group
      write_group_alike addr first [] last = pure_alike _
      write_group_alike addr first (bytes ∷ group) last = write_bytes_alike addr bytes _ >>-alike write_group_alike addr false group last

      transact_alike : (addr turns : ℕ) (operations : List Operation)
          → transact chip check validate start addr turns operations ≈ transact chip check' validate' start' addr turns operations
      unfolding transact
      transact_alike addr zero operations = pure_alike _
      transact_alike addr (suc turns) [] = pure_alike _
      transact_alike addr (suc turns) (operation ∷ operations) =
          if_alike (is_read operation) (blocking_read_iter_alike addr _ _) (write_group_alike addr true _ _)
          >>-alike transact_alike addr turns _

      pub blocking_transaction_alike : (addr : ℕ) (operations : List Operation)
          → blocking_transaction chip check validate start addr operations ≈ blocking_transaction chip check' validate' start' addr operations
      unfolding blocking_transaction
      blocking_transaction_alike addr operations = validate-alike addr >>-alike (validate_operations_alike operations false >>-alike transact_alike addr _ operations)
