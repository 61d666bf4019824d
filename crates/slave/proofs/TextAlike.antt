-- One text, two error checks: if the checks are alike, so is each function of Rust.antt that uses one.
-- Assumes nothing.
use mathlib.Core.Path.{◌≡◌}
use mathlib.Core.Bool.{Bool, true, not, ◌&&◌}
use mathlib.Core.List.{List}
use Prim.Native.Nat.{ℕ, suc}
use lib.Dec.{eqb, ltb}
use lib.ListN.{length, get_or}
use Rattle.registers.specs.declared.chip.Chip.{Chip}
use Rattle.registers.specs.declared.register.Register.TheVariants.{Star1, Star2, Datar}
use Rattle.registers.specs.Bits.{ADDMODE, ADDR, STOPF, RXNE, TXE, AF, MSL, BUSY, GENCALL, DUALF}
use Rattle.registers.specs.Fields.{DATA}
use Rattle.registers.specs.Word.{has_bit, field_of}
use Rattle.registers.specs.Flags.{error_flags}
use Rattle.access.specs.declared.ending.Error.{Error}
use Rattle.access.specs.declared.ending.Error.TheVariants.{Timeout}
use Rattle.access.specs.Endings.{Ending, failed}
use Rattle.access.specs.Program.{Access, read, Blocking, continue, return}
use Rattle.alike.specs.Like.{Alike}
use Rattle.alike.proofs.LikeLaws.{pure_alike, ◌>>=-alike◌, ◌>>-alike◌, read_alike, read_then, write_alike, modify_alike, send_alike, store_alike, if_alike, only_alike, drop_alike, loop_alike, timeout_alike}
use Rattle.slave.specs.Rust.{clear_stopf, clear_af, clear_slave_stale_flags, decode_slave_address, disable_slave_transfers, abort_slave_transfer, kind_of_command, taken_off, check_errors_and_time, blocking_listen, blocking_respond_to_write, blocking_respond_to_read}

module _ (forget : Ending → Ending) (allowed : Access → ℕ → Bool) (fixed : (e : Error) → forget (failed e) ≡ failed e) (chip : Chip) where
  abbrev ◌≈◌ : {A : Type 0} → Blocking A → Blocking A → Type 0
  ◌≈◌ m m' = Alike forget allowed m m'

  infix 5 ◌≈◌
  clear_stopf_alike : clear_stopf ≈ clear_stopf
  unfolding clear_stopf
  clear_stopf_alike = read_alike _ >>=-alike (λ star1. modify_alike _ _)

  clear_af_alike : clear_af ≈ clear_af
  unfolding clear_af
  clear_af_alike = modify_alike _ _

  stale_alike : clear_slave_stale_flags ≈ clear_slave_stale_flags
  unfolding clear_slave_stale_flags
  stale_alike = clear_stopf_alike >>-alike (read_alike _ >>=-alike (λ status. only_alike (not (eqb (error_flags status) 0)) (write_alike _ _)))

  decode_alike : (star2 : ℕ) → decode_slave_address star2 ≈ decode_slave_address star2
  unfolding decode_slave_address
  decode_alike star2 =
      if_alike (has_bit GENCALL star2) (pure_alike _) (if_alike (has_bit DUALF star2) (read_alike _ >>=-alike (λ oaddr2. pure_alike _))
      (read_alike _ >>=-alike (λ oaddr1. if_alike (has_bit ADDMODE oaddr1) (pure_alike _) (pure_alike _))))

  disable_alike : disable_slave_transfers ≈ disable_slave_transfers
  unfolding disable_slave_transfers
  disable_alike = modify_alike _ _

  abort_alike : abort_slave_transfer ≈ abort_slave_transfer
  unfolding abort_slave_transfer
  abort_alike = disable_alike >>-alike (read_alike _ >>=-alike (λ star2. only_alike (has_bit BUSY star2 && not (has_bit MSL star2)) (modify_alike _ _)))

  module _ (check check' : ℕ → Blocking (Unit {0})) (check_alike : (status : ℕ) → allowed (read Star1) status ≡ true → check status ≈ check' status) where
    errors_and_time_alike : (star1 : ℕ) → allowed (read Star1) star1 ≡ true → check_errors_and_time chip check star1 ≈ check_errors_and_time chip check' star1
    unfolding check_errors_and_time
    errors_and_time_alike star1 ok = drop_alike abort_alike (check_alike star1 ok) >>-alike drop_alike abort_alike (timeout_alike (fixed Timeout))

    pub blocking_listen_alike : blocking_listen chip check ≈ blocking_listen chip check'
    unfolding blocking_listen
    blocking_listen_alike =
        stale_alike
        >>-alike (modify_alike _ _
        >>-alike (modify_alike _ _
        >>-alike loop_alike (tt {0}) (λ _. read_then Star1 (λ star1 ok. if_alike (has_bit ADDR star1)
        (read_alike Star2 >>=-alike (λ star2. decode_alike star2 >>=-alike (λ address. pure_alike (return (record { kind = kind_of_command star2; address = address })))))
        (errors_and_time_alike star1 ok >>-alike pure_alike (continue (tt {0})))))))

    pub blocking_respond_to_write_alike : (size : ℕ) → blocking_respond_to_write chip check size ≈ blocking_respond_to_write chip check' size
    unfolding blocking_respond_to_write
    blocking_respond_to_write_alike size =
        loop_alike 0 (λ stored. read_then Star1 (λ star1 ok. if_alike (has_bit RXNE star1)
        (read_alike Datar >>=-alike (λ datar. if_alike (ltb stored size) (store_alike (field_of DATA datar) >>-alike pure_alike (continue (suc stored))) (pure_alike (continue stored))))
        (if_alike (has_bit STOPF star1) (clear_stopf_alike >>-alike pure_alike (return stored))
        (if_alike (has_bit ADDR star1) (pure_alike (return stored))
        (errors_and_time_alike star1 ok >>-alike pure_alike (continue stored))))))

    -- a reply counts the same in both
    pub blocking_respond_to_read_alike : (Counts : Type 0) (counts : ℕ → ℕ → ℕ → Counts) (bytes : List ℕ)
        → blocking_respond_to_read chip check Counts counts bytes ≈ blocking_respond_to_read chip check' Counts counts bytes
    unfolding blocking_respond_to_read
    blocking_respond_to_read_alike Counts counts bytes =
        loop_alike 0 (λ sent. read_then Star1 (λ star1 ok. if_alike (has_bit AF star1) (clear_af_alike >>-alike pure_alike (return (counts star1 (length bytes) sent)))
        (if_alike (has_bit STOPF star1) (clear_stopf_alike >>-alike pure_alike (return (counts star1 (length bytes) (taken_off chip star1 sent))))
        (if_alike (has_bit ADDR star1) (pure_alike (return (counts star1 (length bytes) (taken_off chip star1 sent))))
        (if_alike (has_bit TXE star1) (send_alike (get_or bytes sent 0) >>-alike pure_alike (continue (suc sent)))
        (errors_and_time_alike star1 ok >>-alike pure_alike (continue sent)))))))
