-- embedded-hal's joining: a transaction is the program of its runs, each with its bytes joined, however a run is divided.
-- Assumes nothing.
use mathlib.Core.Path.{◌≡◌, refl, sym, ap, ◌∙◌}
use mathlib.Core.Bool.{Bool, true, false, cond, ◌&&◌, and-true, and-false}
use mathlib.Core.List.{List, [], ◌∷◌, ◌++◌, append-nil, append_assoc}
use Prim.Native.Nat.{ℕ, zero, suc, ◌+◌, ◌≤◌}
use native.Mathlib.Nat.{add_assoc, add-zero, not-suc-le-zero}
use native.Mathlib.Omega.{arith}
use lib.Dec.{ltb}
use lib.ListN.{length}
use Rattle.registers.specs.declared.chip.Chip.{Chip}
use Rattle.registers.specs.declared.register.Register.TheVariants.{Ctlr1}
use Rattle.registers.specs.Bits.{STOP}
use Rattle.registers.specs.Word.{put_bit}
use Rattle.access.specs.declared.ending.Error.TheVariants.{InvalidAddress}
use Rattle.access.specs.declared.ending.Failure.{Failure}
use Rattle.access.specs.Endings.{failure_of}
use Rattle.access.specs.Program.{Program, access, read, write, Blocking, for_each}
use Rattle.master.specs.declared.call.Frame.{Frame}
use Rattle.master.specs.declared.call.FrameOptions.TheVariants.{FirstAndLastFrame, FirstFrame}
use Rattle.master.specs.Rust as text
use Rattle.master.specs.Rust.{Operation, Write, Read, Parts, the_rust, is_empty, frame, frame_of, validate_address, abort_transfer, wait_stop_finished, group_of, rest_of, buffers_of, lengths_of, sum}
use Rattle.master.specs.Joined.{JW, JR, framed, join_written, join_read, joined, runs_program}
use Rattle.master.specs.Claims.{Passes, RunsJoin}

concat : List (List ℕ) → List ℕ
concat [] = []
concat (b ∷ g) = b ++ concat g

each_append : {A : Type 0} (xs ys : List A) (f : A → Blocking (Unit {0})) (n : ℕ) (h : Failure → Program) (k : Unit {0} → Program)
    → for_each xs f n h (λ _. for_each ys f n h k) ≡ for_each (xs ++ ys) f n h k
each_append [] ys f n h k = refl
each_append (x ∷ xs) ys f n h k = λ i. f x n h (λ _. each_append xs ys f n h k i)

start_of : (a b : Bool) → (frame (frame_of a b)).send_start ≡ a
start_of true true = refl
start_of true false = refl
start_of false true = refl
start_of false false = refl

stop_of : (a b : Bool) → (frame (frame_of a b)).send_stop ≡ b
stop_of true true = refl
stop_of true false = refl
stop_of false true = refl
stop_of false false = refl

read_frame : (b : Bool) → frame (cond b FirstAndLastFrame FirstFrame) ≡ framed true b
read_frame true = refl
read_frame false = refl

-- a run of joined operations is a group of the Rust's, joined
writes_group : (bs : List ℕ) (ops : List Operation) → join_written bs ops ≡ JW (bs ++ concat (buffers_of (group_of false ops))) ∷ joined (rest_of false ops)
unfolding concat joined join_written
writes_group bs [] = λ i. JW (sym (append-nil bs) i) ∷ []
writes_group bs (Write b ∷ ops) = writes_group (bs ++ b) ops ∙ (λ i. JW (append_assoc bs b (concat (buffers_of (group_of false ops))) i) ∷ joined (rest_of false ops))
writes_group bs (Read m ∷ ops) = λ i. JW (sym (append-nil bs) i) ∷ join_read m ops

reads_group : (m : ℕ) (ops : List Operation) → join_read m ops ≡ JR (m + sum (lengths_of (group_of true ops))) ∷ joined (rest_of true ops)
unfolding joined join_written
reads_group m [] = λ i. JR (sym (add-zero m) i) ∷ []
reads_group m (Read l ∷ ops) = reads_group (m + l) ops ∙ (λ i. JR (add_assoc m l (sum (lengths_of (group_of true ops))) i) ∷ joined (rest_of true ops))
reads_group m (Write b ∷ ops) = λ i. JR (sym (add-zero m) i) ∷ join_written b ops

nil_joined : (ops : List Operation) → is_empty ops ≡ is_empty (joined ops)
unfolding joined
nil_joined [] = refl
nil_joined (Write b ∷ ops) = ap is_empty (sym (writes_group b ops))
nil_joined (Read m ∷ ops) = ap is_empty (sym (reads_group m ops))

rest_shorter : (r : Bool) (ops : List Operation) → length (rest_of r ops) ≤ length ops
rest_shorter r [] = omega arith
rest_shorter true (Write b ∷ ops) = omega arith
rest_shorter true (Read m ∷ ops) = omega (arith, rest_shorter true ops)
rest_shorter false (Write b ∷ ops) = omega (arith, rest_shorter false ops)
rest_shorter false (Read m ∷ ops) = omega arith

module _ (chip : Chip) (p : Parts) where
  -- the text with these parts
  abbrev send_byte : ℕ → Blocking (Unit {0})
  send_byte = text.send_byte chip p.check

  abbrev write_bytes : ℕ → List ℕ → Frame → Blocking (Unit {0})
  write_bytes = text.write_bytes chip p.check p.validate p.start

  abbrev blocking_read_iter : ℕ → ℕ → Frame → Blocking (Unit {0})
  blocking_read_iter = text.blocking_read_iter chip p.check p.validate p.start

  abbrev write_group : ℕ → Bool → List (List ℕ) → Bool → Blocking (Unit {0})
  write_group = text.write_group chip p.check p.validate p.start

  abbrev transact : ℕ → ℕ → List Operation → Blocking (Unit {0})
  transact = text.transact chip p.check p.validate p.start

  module _ (addr : ℕ) (ok : Passes p addr) (n : ℕ) (h : Failure → Program) where
    -- a write asks START and STOP alone
    frame_same : (bs : List ℕ) (a b : Bool) (k : Unit {0} → Program) → write_bytes addr bs (frame (frame_of a b)) n h k ≡ write_bytes addr bs (framed a b) n h k
    unfolding text.write_bytes
    frame_same bs a b k = λ i. write_bytes addr bs (framed (start_of a b i) (stop_of a b i)) n h k

    -- two frames of one run are one frame of the joined bytes
    two_frames : (first last : Bool) (b c : List ℕ) (k : Unit {0} → Program)
        → write_bytes addr b (framed first false) n h (λ _. write_bytes addr c (framed false last) n h k) ≡ write_bytes addr (b ++ c) (framed first last) n h k
    unfolding text.write_bytes
    two_frames first last b c k = λ i. write_bytes addr [] (framed first false) n h (λ _. both i)
      where
        h' : Failure → Program
        h' x = abort_transfer chip n h (λ _. h x)

        stop : Unit {0} → Program
        stop _ = cond last (access (read Ctlr1) (λ w. access (write Ctlr1 (put_bit STOP true w)) (λ _. wait_stop_finished chip n h' k))) (k tt)

        both : for_each b send_byte n h' (λ _. p.validate addr n h (λ _. for_each c send_byte n h' stop)) ≡ for_each (b ++ c) send_byte n h' stop
        both = (λ i. for_each b send_byte n h' (λ _. ok n h (λ _. for_each c send_byte n h' stop) i)) ∙ each_append b c send_byte n h' stop

    group_joins : (first last : Bool) (b : List ℕ) (g : List (List ℕ)) (k : Unit {0} → Program)
        → write_group addr first (b ∷ g) last n h k ≡ write_bytes addr (b ++ concat g) (framed first last) n h k
    unfolding text.write_group concat
    group_joins first last b [] k =
        frame_same b first (last && true) _
        ∙ (λ i. write_bytes addr (sym (append-nil b) i) (framed first (and-true last i)) n h k)
    group_joins first last b (c ∷ g) k =
        frame_same b first (last && false) _
        ∙ (λ i. write_bytes addr b (framed first (and-false last i)) n h (λ _. group_joins false last c g k i))
        ∙ two_frames first last b (c ++ concat g) k

    pub transaction_joins : (k : Unit {0} → Program) (turns : ℕ) (ops : List Operation) → length ops ≤ turns → transact addr turns ops n h k ≡ runs_program chip p addr (joined ops) n h k
    unfolding text.transact runs_program joined
    transaction_joins k zero [] le = refl
    transaction_joins k zero (op ∷ ops) le = absurd (not-suc-le-zero le)
    transaction_joins k (suc f) [] le = refl
    transaction_joins k (suc f) (Write b ∷ ops) le =
        group_joins true (is_empty (rest_of false ops)) b (buffers_of (group_of false ops)) (λ _. transact addr f (rest_of false ops) n h k)
        ∙ (λ i. write_bytes addr (b ++ concat (buffers_of (group_of false ops))) (framed true (nil_joined (rest_of false ops) i)) n h
        (λ _. transaction_joins k f (rest_of false ops) (omega (arith, rest_shorter false ops)) i))
        ∙ ap (λ js. runs_program chip p addr js n h k) (sym (writes_group b ops))
    transaction_joins k (suc f) (Read m ∷ ops) le =
        (λ i. blocking_read_iter addr (m + sum (lengths_of (group_of true ops))) (read_frame (is_empty (rest_of true ops)) i) n h (λ _. transact addr f (rest_of true ops) n h k))
        ∙ (λ i. blocking_read_iter addr (m + sum (lengths_of (group_of true ops))) (framed true (nil_joined (rest_of true ops) i)) n h
        (λ _. transaction_joins k f (rest_of true ops) (omega (arith, rest_shorter true ops)) i))
        ∙ ap (λ js. runs_program chip p addr js n h k) (sym (reads_group m ops))

-- an address of seven bits passes
pub seven_bits : (chip : Chip) (address : ℕ) → ltb 0x7f address ≡ false → Passes (the_rust chip) address
unfolding validate_address
seven_bits chip address e n h k = ap (λ (b : Bool). cond b (h (failure_of InvalidAddress)) (k tt)) e

pub runs_join : RunsJoin
runs_join =
    record {
      rust_passes = seven_bits;
      ours_passes = seven_bits;
      joins = λ chip p address ok turns h k operations. transaction_joins chip p address ok turns h k (length operations) operations (omega arith);
    }
