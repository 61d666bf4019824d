-- A lemma for each combinator of Program.antt: alike parts make alike wholes.
-- Assumes nothing.
use Rattle.std.specs.Prelude.{Err}
use mathlib.Core.Path.{◌≡◌, refl, sym, ap, ◌∙◌}
use mathlib.Core.Bool.{Bool, true, false, cond}
use mathlib.Core.List.{List, [], ◌∷◌}
use mathlib.Core.Option.{Option, none, some}
use Prim.Native.Nat.{ℕ, zero, suc}
use Rattle.registers.specs.declared.register.Register.{Register}
use Rattle.access.specs.declared.ending.Error.TheVariants.{Timeout}
use Rattle.access.specs.declared.ending.Failure.{Failure}
use Rattle.access.specs.Endings.{Ending, failure_of, failed}
use Rattle.access.specs.Program.{Access, read, Program, finish, access, keep, cut, Blocking, pure, throw, read_register, write_register, modify, send_data, store, when◌then◌else◌, only_if, or_else, on_drop, while, for_each, spin, Turn, continue, return, turned, spin_from, loop, late, check_timeout, call_of, ◌>>◌, ◌>>=◌}
use Rattle.access.specs.Record.{Event, Shown, no_more, event, arrival, answer_to, shown_of}
use Rattle.access.proofs.Choice.{first_true, second_true, both_true}
use Rattle.alike.specs.Like.{forget_end, forgetting, answer_allowed, all_allowed, any_answer, Like, Alike}

module _ {forget : Ending → Ending} {allowed : Access → ℕ → Bool} where
  -- ---- programs

  pub ends : {e f : Ending} → forget e ≡ f → Like forget allowed (finish e) (finish f)
  ends e = record { same = λ at answers ok. ap (λ (x : Ending). no_more (some x)) (sym e) }

  -- an answer that is not allowed need not be followed
  allowed_accesses : {x : Access} {k l : ℕ → Program} → ((a : ℕ) → answer_allowed allowed x (answer_to x a) ≡ true → Like forget allowed (k a) (l a)) → Like forget allowed (access x k) (access x l)
  allowed_accesses {x} {k} {l} f = record { same = go }
    where
      go : (at : ℕ) (answers : List ℕ) → all_allowed allowed (shown_of at (access x k) answers).events ≡ true → shown_of at (access x l) answers ≡ forgetting forget (shown_of at (access x k) answers)
      go at [] ok = refl
      go at (a ∷ answers) ok =
          let here = answer_allowed allowed x (answer_to x a) in
          let rest = all_allowed allowed (shown_of at (k a) answers).events in
          ap (event x (answer_to x a)) ((f a (first_true here rest ok)).same at answers (second_true here rest ok))

  pub accesses : {x : Access} {k l : ℕ → Program} → ((a : ℕ) → Like forget allowed (k a) (l a)) → Like forget allowed (access x k) (access x l)
  accesses f = allowed_accesses (λ a ok. f a)

  keeps : {b : ℕ} {p q : Program} → Like forget allowed p q → Like forget allowed (keep b p) (keep b q)
  keeps {b} g = record { same = λ at answers ok. ap (arrival at b) (g.same (suc at) answers ok) }

  pub cases : {p q p' q' : Program} (b : Bool) → Like forget allowed p q → Like forget allowed p' q' → Like forget allowed (cond b p p') (cond b q q')
  cases true x y = x
  cases false x y = y

  pub cut_like : Like forget allowed cut cut
  cut_like = record { same = λ at answers ok. refl }

  turns : {t t' : Program → Program} (n : ℕ) → ((p q : Program) → Like forget allowed p q → Like forget allowed (t p) (t' q)) → Like forget allowed (spin n t) (spin n t')
  turns zero f = cut_like
  turns (suc n) f = f _ _ (turns n f)

  turns_from : {S : Type 0} {t t' : S → (S → Program) → Program} (n : ℕ) (s : S)
      → ((s : S) (next next' : S → Program) → ((s : S) → Like forget allowed (next s) (next' s)) → Like forget allowed (t s next) (t' s next')) → Like forget allowed (spin_from n s t) (spin_from n s t')
  turns_from zero s f = cut_like
  turns_from (suc n) s f = f s _ _ (λ s. turns_from n s f)

  turned_like : {S A : Type 0} {next next' : S → Program} {k k' : A → Program} (t : Turn S A) → ((s : S) → Like forget allowed (next s) (next' s)) → ((a : A) → Like forget allowed (k a) (k' a))
      → Like forget allowed (turned t next k) (turned t next' k')
  turned_like (continue s) N K = N s
  turned_like (return a) N K = K a

  -- ---- functions

  pub pure_alike : {A : Type 0} (a : A) → Alike forget allowed (pure a) (pure a)
  pure_alike a = record { like = λ n H K. K a }

  infixl 10 ◌>>=-alike◌ ◌>>-alike◌
  pub ◌>>=-alike◌ : {A B : Type 0} {m m' : Blocking A} {f f' : A → Blocking B} → Alike forget allowed m m' → ((a : A) → Alike forget allowed (f a) (f' a)) → Alike forget allowed (m >>= f) (m' >>= f')
  x >>=-alike y = record { like = λ n H K. x.like n H (λ a. (y a).like n H K) }

  pub ◌>>-alike◌ : {A B : Type 0} {m m' : Blocking A} {f f' : Blocking B} → Alike forget allowed m m' → Alike forget allowed f f' → Alike forget allowed (m >> f) (m' >> f')
  x >>-alike y = record { like = λ n H K. x.like n H (λ _. y.like n H K) }

  pub read_alike : (r : Register) → Alike forget allowed (read_register r) (read_register r)
  read_alike r = record { like = λ n H K. accesses K }

  -- what follows the read of a register, for every answer that is allowed
  pub read_then : {A : Type 0} (r : Register) {f f' : ℕ → Blocking A} → ((a : ℕ) → allowed (read r) a ≡ true → Alike forget allowed (f a) (f' a))
      → Alike forget allowed (read_register r >>= f) (read_register r >>= f')
  read_then r g = record { like = λ n H K. allowed_accesses (λ a ok. (g a ok).like n H K) }

  pub write_alike : (r : Register) (v : ℕ) → Alike forget allowed (write_register r v) (write_register r v)
  write_alike r v = record { like = λ n H K. accesses (λ _. K tt) }

  pub modify_alike : (r : Register) (f : ℕ → ℕ) → Alike forget allowed (modify r f) (modify r f)
  modify_alike r f = record { like = λ n H K. accesses (λ _. accesses (λ _. K tt)) }

  pub send_alike : (b : ℕ) → Alike forget allowed (send_data b) (send_data b)
  send_alike b = record { like = λ n H K. accesses (λ _. K tt) }

  pub store_alike : (b : ℕ) → Alike forget allowed (store b) (store b)
  store_alike b = record { like = λ n H K. keeps (K tt) }

  pub if_alike : {A : Type 0} {x x' y y' : Blocking A} (b : Bool) → Alike forget allowed x x' → Alike forget allowed y y' → Alike forget allowed (when b then x else y) (when b then x' else y')
  if_alike b x y = record { like = λ n H K. cases b (x.like n H K) (y.like n H K) }

  pub only_alike : {x x' : Blocking (Unit {0})} (b : Bool) → Alike forget allowed x x' → Alike forget allowed (only_if b x) (only_if b x')
  only_alike b x = if_alike b x (pure_alike tt)

  pub or_alike : {x x' y y' : Blocking Bool} → Alike forget allowed x x' → Alike forget allowed y y' → Alike forget allowed (or_else x y) (or_else x' y')
  or_alike x y = x >>=-alike (λ b. if_alike b (pure_alike true) y)

  pub drop_alike : {A : Type 0} {d d' : Blocking (Unit {0})} {x x' : Blocking A} → Alike forget allowed d d' → Alike forget allowed x x' → Alike forget allowed (on_drop d x) (on_drop d' x')
  drop_alike d x = record { like = λ n H K. x.like n (record { after = λ f g e. d.like n H (λ _. H.after f g e) }) K }

  pub while_alike : {t t' : Blocking Bool} {x x' : Blocking (Unit {0})} → Alike forget allowed t t' → Alike forget allowed x x' → Alike forget allowed (while t x) (while t' x')
  while_alike t x = record { like = λ n H K. turns n (λ p q again. t.like n H (λ b. cases b (x.like n H (λ _. again)) (K tt))) }

  pub each_alike : {A : Type 0} {f f' : A → Blocking (Unit {0})} (as' : List A) → ((a : A) → Alike forget allowed (f a) (f' a)) → Alike forget allowed (for_each as' f) (for_each as' f')
  each_alike [] f = pure_alike tt
  each_alike (a ∷ as') f = f a >>-alike each_alike as' f

  pub loop_alike : {S A : Type 0} {t t' : S → Blocking (Turn S A)} (s : S) → ((s : S) → Alike forget allowed (t s) (t' s)) → Alike forget allowed (loop s t) (loop s t')
  loop_alike s f = record { like = λ n H K. turns_from n s (λ s next next' N. (f s).like n H (λ r. turned_like r N K)) }

  -- an error of which nothing is forgotten
  pub throw_alike : {A : Type 0} (f : Failure) → forget (Err f) ≡ Err f → Alike forget allowed (throw {A = A} f) (throw {A = A} f)
  throw_alike f e = record { like = λ n H K. H.after f f e }

  pub timeout_alike : forget (failed Timeout) ≡ failed Timeout → Alike forget allowed check_timeout check_timeout
  unfolding check_timeout
  timeout_alike e = record { like = λ n H K. accesses (λ t. cases (late t) (H.after (failure_of Timeout) (failure_of Timeout) e) (K tt)) }

  -- ---- calls: alike functions, whose answers end the call alike

  pub calls : {A : Type 0} {m m' : Blocking A} {done done' : A → Ending} (turns : ℕ) → Alike forget allowed m m' → ((a : A) → forget (done a) ≡ done' a) → Like forget allowed (call_of m done turns) (call_of m' done' turns)
  calls turns x e = x.like turns (record { after = λ f g q. ends q }) (λ a. ends (e a))

-- ---- where every answer is allowed

any_allowed : (es : List Event) → all_allowed any_answer es ≡ true
any_allowed [] = refl
any_allowed (e ∷ es) = both_true (here e.answer) (any_allowed es)
  where
    here : (a : Option ℕ) → answer_allowed any_answer e.what a ≡ true
    here none = refl
    here (some a) = refl

pub always : {F : Ending → Ending} {p q : Program} → Like F any_answer p q → (at : ℕ) (answers : List ℕ) → shown_of at q answers ≡ forgetting F (shown_of at p answers)
always {p = p} f at answers = f.same at answers (any_allowed (shown_of at p answers).events)

pub nothing_forgotten : (r : Shown) → r ≡ forgetting (λ e. e) r
nothing_forgotten r = ap (λ (e : Option Ending). record { events = r.events; arrivals = r.arrivals; end = e }) (kept r.end)
  where
    kept : (e : Option Ending) → e ≡ forget_end (λ e. e) e
    kept none = refl
    kept (some e) = refl

-- one program that is like another in two ways: both forget the same of what is seen of it
pub forget_alike : {F G : Ending → Ending} {p q : Program} → Like F any_answer p q → Like G any_answer p q → (at : ℕ) (answers : List ℕ) → forgetting F (shown_of at p answers) ≡ forgetting G (shown_of at p answers)
forget_alike f g at answers = sym (always f at answers) ∙ always g at answers
