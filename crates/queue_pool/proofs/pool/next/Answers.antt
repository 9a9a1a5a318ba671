use Rattle.std.proofs.Common.{◌≡◌, sym, refl, subst, inl, inr, [], length, rules}
use Rattle.std.specs.Prelude.{Some}
use Rattle.std.proofs.lemmas.List.{append-nil}
use Rattle.std.proofs.lemmas.List.Elements.{All-pop}
use Rattle.std.proofs.lemmas.Option.{IfSome_then}
use Rattle.flat_queue.specs.Members.{Coming}
use Rattle.queue_pool.specs.Pool.{IsIdleAt, FirstJoins}
use Rattle.queue_pool.proofs.Pooled.{all_rest, all_asked, if_none_then}
use Rattle.queue_pool.proofs.pool.next.Goals as goal

pub returns-clause-newcomers : goal.returns-clause-newcomers
returns-clause-newcomers g c =
    let here = λ (n : Coming). n.queue ≡ c.args.queue.now in
    all_rest here c.args.newcomers.now.items c.pop_front.new.self.items c.pop_front.result c.pop_front.ensures.items c.requires.newcomers

pub returns-in-Some-pop_front-clause-newcomers : goal.returns-in-Some-pop_front-clause-newcomers
returns-in-Some-pop_front-clause-newcomers g c =
    let here = λ (n : Coming). n.queue ≡ c.args.queue.now in
    all_rest here c.args.newcomers.now.items c.pop_front.new.self.items c.pop_front.result c.pop_front.ensures.items c.requires.newcomers

pub returns-in-Some-clause-idle : goal.returns-in-Some-clause-idle
returns-in-Some-clause-idle g c =
    (All-pop (IsIdleAt c.args.queue.now) c.args.idle.now.items c.pop.new.self.items c.pop.result c.pop.ensures.items c.requires.idle).0

pub returns-in-Some-clause-is_idle : goal.returns-in-Some-clause-is_idle
returns-in-Some-clause-is_idle g c =
    (All-pop (IsIdleAt c.args.queue.now) c.args.idle.now.items c.pop.new.self.items (Some c.in-Some.member) c.in-Some.ensures.items c.requires.idle).1

pub returns-in-Some-clause-comes : goal.returns-in-Some-clause-comes
returns-in-Some-clause-comes g c = record { from = inl (search rules) }

pub returns-in-Some-first_told-clause-comes : goal.returns-in-Some-first_told-clause-comes
returns-in-Some-first_told-clause-comes g c =
    let w = c.args.waiting.now.items in
    let turns : length w ≡ c.len-turns.result = search rules in
    record { from = inr (inl record { none_idle = search rules; idle = search rules; told = c.in-Some-first_told.ensures.told w [] (sym (append-nil w)) turns; newcomers = refl }) }

pub returns-in-Some-pop_front-clause-comes : goal.returns-in-Some-pop_front-clause-comes
returns-in-Some-pop_front-clause-comes g c =
    let w = c.args.waiting.now.items in
    let turns : length w ≡ c.len-turns.result = search rules in
    let asked = c.in_default-first_told.ensures.none w [] (sym (append-nil w)) turns in
    record {
      from = inr (inr (inl record {
        none_idle = search rules;
        idle = search rules;
        waiting = all_asked _ w c.first_told.new.waiting.items asked;
        joins = subst (λ l. FirstJoins l c.join.result c.pop_front.new.self.items) (sym c.in-Some-pop_front.ensures.items) (c.join.ensures.joins, refl);
      }));
    }

pub returns-clause-comes : goal.returns-clause-comes
returns-clause-comes g c =
    let w = c.args.waiting.now.items in
    let turns : length w ≡ c.len-turns.result = search rules in
    let asked = c.in_default-first_told.ensures.none w [] (sym (append-nil w)) turns in
    let no_idle : c.args.idle.now.items ≡ [] = search rules in
    let still_none : c.pop.new.self.items ≡ [] = search rules in
    let no_new : c.args.newcomers.now.items ≡ [] = search rules in
    let still_no_new : c.pop_front.new.self.items ≡ [] = search rules in
    IfSome_then c.told_by_round.result c.told_by_round.ensures.led
    (λ m led. record {
      from = inr (inr (inr record {
        none_idle = no_idle;
        idle = still_none;
        none_new = no_new;
        newcomers = still_no_new;
        asked = c.first_told.new.waiting.items;
        in_vain = all_asked _ w c.first_told.new.waiting.items asked;
        led = led;
      }));
    })

pub returns-clause-none : goal.returns-clause-none
returns-clause-none g c =
    let w = c.args.waiting.now.items in
    let turns : length w ≡ c.len-turns.result = search rules in
    let asked = c.in_default-first_told.ensures.none w [] (sym (append-nil w)) turns in
    let no_idle : c.args.idle.now.items ≡ [] = search rules in
    let still_none : c.pop.new.self.items ≡ [] = search rules in
    let no_new : c.args.newcomers.now.items ≡ [] = search rules in
    let still_no_new : c.pop_front.new.self.items ≡ [] = search rules in
    if_none_then c.told_by_round.result c.told_by_round.ensures.held
    (λ held. record {
      none_idle = no_idle;
      idle = still_none;
      none_new = no_new;
      newcomers = still_no_new;
      asked = c.first_told.new.waiting.items;
      in_vain = all_asked _ w c.first_told.new.waiting.items asked;
      held = held;
    })
