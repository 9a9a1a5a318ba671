-- Who waits, over moves and runs.
use Rattle.std.proofs.Common.{◌≡◌, ℕ, ⊎_elim, true, false, List, [], ◌∷◌, ◌++◌, refl, ap, sym, ◌∙◌, subst}
use Rattle.pq_types.specs.History.{Limits}
use Rattle.wait_list.specs.declared.waiter.Waiter.{Waiter}
use Rattle.wait_list.specs.declared.stock.Stock.{Stock}
use Rattle.wait_list.specs.Waiters.{Change, changed}
use Rattle.wait_list.specs.Settled.{IsSettled, OnlyWakes, settled}
use Rattle.pq_book.specs.Book.{Volume}
use Rattle.pq_book.specs.Stock.{stock_of, IsSettledBook}
use Rattle.desk_core.specs.Desk.{Desk, volume, dealer_opening}
use Rattle.desk_core.specs.Rule.{MeetsRule}
use Rattle.desk_core.specs.Dealing.{Move, DealtRun}
use Rattle.desk_core.specs.Archiving.{archived_by}
use Rattle.desk_core.specs.Waiters.{changes_by, changes_of, changed_by, HasWaiters, MovesKeepWaiters, EveryRunHasWaiters, NobodySleepsBesideAnItem}
use Rattle.desk_core.proofs.Journals.{QueueLaws}
use Rattle.desk_core.proofs.Held.{Keeping, Held, on_all, on_none, so_far, on_move, at_end, on_run}
use Rattle.desk_core.proofs.StepFacts.{not_both_locks}
use Rattle.desk_core.proofs.Times.{no_pen}
use Rattle.desk_core.proofs.Runs.{openings_meet}
use Rattle.desk_core.proofs.TakeTurns.{moves_keep}

-- what the laws of wait_list say of lists that settle and change
pub record WaitLaws : Type 0 where
  pub settled_is : (stock : Stock) (ws : List Waiter) → IsSettled stock (settled stock ws)
  pub only : (stock : Stock) (ws : List Waiter) → OnlyWakes ws (settled stock ws)
  pub changes : (c : Change) (vs ws : List Waiter) → OnlyWakes vs ws → OnlyWakes (changed c vs) (changed c ws)
  pub goes_on : (us vs ws : List Waiter) → OnlyWakes us vs → OnlyWakes vs ws → OnlyWakes us ws

abbrev keeping : WaitLaws → Keeping (List Waiter)
keeping w =
    record {
      in_hand = λ ws b. OnlyWakes ws b.waiters;
      at_home = λ ws b. OnlyWakes ws b.waiters × IsSettledBook b;
      archive = λ ws n. ws;
      change = λ ws c. changed c ws;
      leads = λ ws b t. t.0;
      answers = λ ws b place serial o a t may. t;
      archives = λ ws b n t. t;
      changes = λ ws b c t. w.changes c ws b.waiters t;
      settles = λ ws b t. (w.goes_on ws b.waiters (settled (stock_of b) b.waiters) t (w.only (stock_of b) b.waiters), w.settled_is (stock_of b) b.waiters);
    }

changes_only : (ws : List Waiter) (cs : List Change) → on_all (λ (vs : List Waiter) (c : Change). changed c vs) ws cs ≡ changed_by ws cs
changes_only ws [] = refl
changes_only ws (c ∷ cs) = changes_only (changed c ws) cs

after_all : (w : WaitLaws) (ws : List Waiter) (ns : List ℕ) (cs : List Change) → so_far (keeping w) ns cs ws ≡ changed_by ws cs
after_all w ws ns cs = ap (λ (vs : List Waiter). on_all (keeping w).change vs cs) (on_none ws ns) ∙ changes_only ws cs

pub moves_keep_waiters : WaitLaws → MovesKeepWaiters
moves_keep_waiters w d e x ws m h move =
    let t = on_move (keeping w) d m ws record { home = h.home; hand = h.hand } x e move in
    subst (HasWaiters e) (after_all w ws (archived_by d x e move) (changes_by d x e move)) record { home = t.home; hand = t.hand }

after_both : (ws : List Waiter) (bs cs : List Change) → changed_by (changed_by ws bs) cs ≡ changed_by ws (bs ++ cs)
after_both ws [] cs = refl
after_both ws (b ∷ bs) cs = after_both (changed b ws) bs cs

at_the_end : (w : WaitLaws) (d : Desk) (xs : List Move) (e : Desk) (run : DealtRun d xs e) (ws : List Waiter)
    → at_end (keeping w) d xs e run ws ≡ changed_by ws (changes_of d xs e run)
at_the_end w d [] e run ws = refl
at_the_end w d (x ∷ xs) e run ws =
    let cs = changes_by d x run.0 run.1 in
    at_the_end w run.0 xs e run.2 (so_far (keeping w) (archived_by d x run.0 run.1) cs ws)
    ∙ (ap (λ (vs : List Waiter). changed_by vs (changes_of run.0 xs e run.2)) (after_all w ws (archived_by d x run.0 run.1) cs) ∙ after_both ws cs (changes_of run.0 xs e run.2))

-- nobody waits at the opening
nobody : false ≡ true → ⊥
nobody e = cc

none_settled : (stock : Stock) → IsSettled stock []
none_settled stock =
    record {
      threads = λ p f s. absurd (nobody s);
      listeners = λ p f n s. absurd (nobody s);
      heard = λ p f n s. absurd (nobody s);
      watched = λ p f s. absurd (nobody s);
      alarms = λ p f s. nobody s;
      room = λ l s. absurd (nobody s);
      room_listeners = λ l n s. absurd (nobody s);
      shut = λ h s. nobody s;
      shut_listeners = λ h s. nobody s;
      over = λ h f s. nobody s;
      spent = λ h s. nobody s;
    }

begins_so : (w : WaitLaws) (places : ℕ) (l : Limits) → Held (keeping w) [] (dealer_opening places l)
begins_so w places l =
    record {
      home = λ b e. (let f : volume l [] ≡ b = cc in subst (λ (v : Volume). OnlyWakes [] v.waiters × IsSettledBook v) f (tt, none_settled (stock_of (volume l []))));
      hand = λ i p a leads. absurd (no_pen l.room i p a);
    }

pub every_run_has_waiters : WaitLaws → QueueLaws → EveryRunHasWaiters
every_run_has_waiters w laws places l moves d small run =
    let o = dealer_opening places l in
    let t = on_run (keeping w) laws o moves d [] (openings_meet.dealer places l small) (begins_so w places l) run in
    subst (HasWaiters d) (at_the_end w o moves d run []) record { home = t.home; hand = t.hand }

run_keeps : QueueLaws → (d : Desk) (xs : List Move) (e : Desk) → MeetsRule d → DealtRun d xs e → MeetsRule e
run_keeps laws d [] e m run = subst MeetsRule (sym run) m
run_keeps laws d (x ∷ xs) e m run = run_keeps laws run.0 xs e (moves_keep laws d x run.0 m run.1) run.2

-- where the lock is free the Book is at home, and has woken whom it was to wake
pub nobody_sleeps_beside_an_item : WaitLaws → QueueLaws → NobodySleepsBesideAnItem
nobody_sleeps_beside_an_item w laws places l moves d small run free =
    let m = run_keeps laws (dealer_opening places l) moves d (openings_meet.dealer places l small) run in
    let t = ⊎_elim (λ t. t.1) (λ t. absurd (not_both_locks d.held free t.0)) m.2.lock in
    (t.book, t.is, ((every_run_has_waiters w laws places l moves d small run).home t.book t.is).1)
