-- Layer 1: the blocking slave of src/i2c.rs and src/i2c/slave.rs, one definition for each function, callees first. From two places on
-- the text is over parts that stand above it: those are the Rust's, and Ours.antt has others.
use Rattle.std.specs.Prelude.{Bool, true, false, cond, not, ◌&&◌, ◌||◌, List, ℕ, suc, pred, ◌+◌, ◌-◌, ◌*◌, ◌/◌, ◌%◌, min, eqb, leb, ltb, length, get_or, Option, Some, None}
use Rattle.registers.specs.declared.chip.Chip.{Chip}
use Rattle.registers.specs.declared.register.Register.TheVariants.{Ctlr1, Ctlr2, Oaddr1, Oaddr2, Datar, Star1, Star2}
use Rattle.registers.specs.Bits.{PE, ENGC, NOSTRETCH, STOP, ACK, ITERREN, ITEVTEN, ITBUFEN, DMAEN, ADD0, MUST1, ADDMODE, ENDUAL, ADDR, STOPF, RXNE, TXE, BERR, ARLO, AF, OVR, PECERR, TIMEOUT, MSL, BUSY, TRA, GENCALL, DUALF}
use Rattle.registers.specs.Fields.{ADD7_1, ADD9_8, ADD2, DATA}
use Rattle.registers.specs.Word.{has_bit, put_bit, field_of, put_field}
use Rattle.registers.specs.Flags.{error_flags, clear_error}
use Rattle.access.specs.declared.ending.Error.{Error}
use Rattle.access.specs.declared.ending.Error.TheVariants.{Bus, Arbitration, Timeout, Crc, Overrun, InvalidAddress}
use Rattle.access.specs.Endings.{failure_of}
use Rattle.access.specs.Program.{Blocking, pure, throw, read_register, write_register, modify, send_data, store, when◌then◌else◌, only_if, on_drop, continue, return, loop, check_timeout, ◌>>◌, ◌>>=◌}
use Rattle.slave.specs.declared.config.SlaveAddress.{SlaveAddress}
use Rattle.slave.specs.declared.config.SlaveAddress.TheVariants.{SevenBit, TenBit}
use Rattle.slave.specs.declared.config.SlaveConfig.{SlaveConfig}
use Rattle.slave.specs.declared.command.SlaveCommandKind.{SlaveCommandKind}
use Rattle.slave.specs.declared.command.SlaveCommandKind.TheVariants.{GeneralCall, Read, Write}
use Rattle.slave.specs.declared.command.SlaveCommand.{SlaveCommand}

-- `Err(error)`
abbrev pub fail : {A : Type 0} → Error → Blocking A
fail e = throw (failure_of e)

-- ---- impl SlaveConfig

-- `match self.address`, the first half of `validate`
abbrev pub validate_own : SlaveAddress → Bool → Blocking (Unit {0})
validate_own (SevenBit addr) general = only_if (ltb 0x7f addr || (eqb addr 0 && not general)) (fail InvalidAddress)
validate_own (TenBit addr) general = only_if (ltb 0x3ff addr) (fail InvalidAddress)

-- `matches!(self.address, SlaveAddress::TenBit(_))`
abbrev pub is_ten_bit : SlaveAddress → Bool
is_ten_bit (SevenBit addr) = false
is_ten_bit (TenBit addr) = true

-- `if let Some(addr2) = self.second_address`
abbrev pub validate_second : SlaveAddress → Option ℕ → Blocking (Unit {0})
validate_second own None = pure tt
validate_second own (Some addr2) = only_if (ltb 0x7f addr2 || is_ten_bit own) (fail InvalidAddress)

unfoldable pub validate : SlaveConfig → Blocking (Unit {0})
validate config = do
  validate_own config.address config.general_call
  validate_second config.address config.second_address

-- ---- impl I2c<T, M, O>

unfoldable pub clear_stopf : Blocking (Unit {0})
clear_stopf = do
  star1 ← read_register Star1
  modify Ctlr1 (λ w. w)

unfoldable pub clear_af : Blocking (Unit {0})
clear_af = modify Star1 (put_bit AF false)

module _ (chip : Chip) where
  unfoldable pub slave_handle_errors : ℕ → Blocking (Unit {0})
  slave_handle_errors status = do
    let observed = error_flags status
    only_if (not (eqb observed 0)) (write_register Star1 (clear_error observed))
    only_if (has_bit ARLO status) (fail Arbitration)
    only_if (chip.i2c_v3 && has_bit TIMEOUT status) (fail Timeout)
    only_if (has_bit PECERR status) (fail Crc)
    only_if (has_bit OVR status) (fail Overrun)
    only_if (chip.ch32v4 && has_bit BERR status) (fail Bus)
    pure tt

unfoldable pub clear_slave_stale_flags : Blocking (Unit {0})
clear_slave_stale_flags = do
  clear_stopf
  status ← read_register Star1
  let observed = error_flags status
  only_if (not (eqb observed 0)) (write_register Star1 (clear_error observed))

-- `(u16::from(oaddr1.add9_8()) << 8) | (u16::from(oaddr1.add7_1()) << 1) | add0`
abbrev pub ten_bits : ℕ → ℕ
ten_bits oaddr1 = field_of ADD9_8 oaddr1 * 256 + field_of ADD7_1 oaddr1 * 2 + cond (has_bit ADD0 oaddr1) 1 0

unfoldable pub decode_slave_address : ℕ → Blocking SlaveAddress
decode_slave_address star2 =
    when has_bit GENCALL star2
    then pure (SevenBit 0)
    else (when has_bit DUALF star2
    then (do
      oaddr2 ← read_register Oaddr2
      pure (SevenBit (field_of ADD2 oaddr2)))
    else (do
      oaddr1 ← read_register Oaddr1
      when has_bit ADDMODE oaddr1 then pure (TenBit (ten_bits oaddr1)) else pure (SevenBit (field_of ADD7_1 oaddr1))))

-- the Rust's `SendStatus`
pub data SendStatus : Type 0 where
  Done : SendStatus
  LeftoverBytes : ℕ → SendStatus

abbrev pub send_status : ℕ → ℕ → SendStatus
send_status total sent =
    let data-sent = min sent total in
    cond (leb total data-sent) Done (LeftoverBytes (total - data-sent))

-- `match config.address`
abbrev pub own_word : SlaveAddress → ℕ
own_word (SevenBit addr) = put_field ADD7_1 addr (put_bit MUST1 true (put_bit ADDMODE false 0))
own_word (TenBit addr) = put_bit ADD0 (has_bit 0 addr) (put_field ADD7_1 (addr / 2 % 256) (put_field ADD9_8 (addr / 256 % 256) (put_bit MUST1 true (put_bit ADDMODE true 0))))

-- `if let Some(addr2) = config.second_address`
abbrev pub second_word : Option ℕ → ℕ
second_word None = put_bit ENDUAL false 0
second_word (Some addr2) = put_bit ENDUAL true (put_field ADD2 addr2 0)

unfoldable pub init_slave : SlaveConfig → Blocking (Unit {0})
init_slave config = do
  modify Ctlr1 (put_bit PE false)
  modify Ctlr2 (put_bit ITBUFEN false)
  write_register Oaddr1 (own_word config.address)
  write_register Oaddr2 (second_word config.second_address)
  modify Ctlr1 (λ w. put_bit PE true (put_bit ACK true (put_bit NOSTRETCH (not config.clock_stretching) (put_bit ENGC config.general_call w))))

unfoldable pub disable_slave_transfers : Blocking (Unit {0})
disable_slave_transfers = modify Ctlr2 (λ w. put_bit ITBUFEN false (put_bit ITEVTEN false (put_bit ITERREN false (put_bit DMAEN false w))))

unfoldable pub abort_slave_transfer : Blocking (Unit {0})
abort_slave_transfer = do
  disable_slave_transfers
  star2 ← read_register Star2
  only_if (has_bit BUSY star2 && not (has_bit MSL star2)) (modify Ctlr1 (put_bit STOP true))

-- ---- src/i2c/slave.rs

-- the first two lines of `into_slave`
unfoldable pub into_slave : SlaveConfig → Blocking (Unit {0})
into_slave config = do
  validate config
  init_slave config

-- `let kind = if star2.gencall() { .. }`
abbrev pub kind_of_command : ℕ → SlaveCommandKind
kind_of_command star2 = cond (has_bit GENCALL star2) GeneralCall (cond (has_bit TRA star2) Read Write)

module _ (chip : Chip) where
  -- `if !star1.tx_e() && sent > 0 { sent -= 1; }`
  abbrev pub taken_off : ℕ → ℕ → ℕ
  taken_off star1 sent = cond (not (has_bit TXE star1) && ltb 0 sent) (pred sent) sent

  -- from here on over any error check; the Rust's stands above
  module _ (slave_handle_errors : ℕ → Blocking (Unit {0})) where
    -- `Self::slave_handle_errors(&star1).map_err(..)?; timeout.check().ok_or_else(..)?;`, where both closures abort
    unfoldable pub check_errors_and_time : ℕ → Blocking (Unit {0})
    check_errors_and_time star1 = do
      on_drop abort_slave_transfer (slave_handle_errors star1)
      on_drop abort_slave_transfer check_timeout

    unfoldable pub blocking_listen : Blocking SlaveCommand
    blocking_listen = do
      clear_slave_stale_flags
      modify Ctlr2 (put_bit ITBUFEN false)
      modify Ctlr1 (put_bit ACK true)
      loop (tt {0}) (λ _. do
        star1 ← read_register Star1
        when has_bit ADDR star1
            then (do
              star2 ← read_register Star2
              address ← decode_slave_address star2
              pure (return (record { kind = kind_of_command star2; address = address })))
            else (do
              check_errors_and_time star1
              pure (continue (tt {0}))))

    -- over `stored`; the buffer is known by how many bytes it takes
    unfoldable pub blocking_respond_to_write : ℕ → Blocking ℕ
    blocking_respond_to_write size =
        loop 0 (λ stored. do
          star1 ← read_register Star1
          when has_bit RXNE star1
              then (do
                datar ← read_register Datar
                when ltb stored size
                    then (do
                      store (field_of DATA datar)
                      pure (continue (suc stored)))
                    else pure (continue stored))
              else (when has_bit STOPF star1
              then (do
                clear_stopf
                pure (return stored))
              else (when has_bit ADDR star1
              then pure (return stored)
              else (do
                check_errors_and_time star1
                pure (continue stored)))))

    -- and over what a reply counts, by the word that ends it too; the Rust's `send_status`, above, doesn't look at the word
    module _ (Counts : Type 0) (counts : ℕ → ℕ → ℕ → Counts) where
      -- over `sent`
      unfoldable pub blocking_respond_to_read : List ℕ → Blocking Counts
      blocking_respond_to_read bytes =
          loop 0 (λ sent. do
            star1 ← read_register Star1
            let send_status = counts star1
            when has_bit AF star1
                then (do
                  clear_af
                  pure (return (send_status (length bytes) sent)))
                else (when has_bit STOPF star1
                then (do
                  clear_stopf
                  pure (return (send_status (length bytes) (taken_off star1 sent))))
                else (when has_bit ADDR star1
                then pure (return (send_status (length bytes) (taken_off star1 sent)))
                else (when has_bit TXE star1
                then (do
                  send_data (get_or bytes sent 0)
                  pure (continue (suc sent)))
                else (do
                  check_errors_and_time star1
                  pure (continue sent))))))
