use Rattle.std.proofs.Common.{◌≡◌, ℕ, ◌∙◌, sym, ap, subst, length, get_or}
use Rattle.split_grid.specs.Tokens.{Sized}
use Rattle.split_grid.specs.Opening.{newcomer_in}
use Rattle.split_grid.proofs.Deals.{first, rest, dealt_more}
use Rattle.split_grid.proofs.opening.deal.Goals as goal

pub next_newcomer-requires-clause-here : goal.next_newcomer-requires-clause-here
next_newcomer-requires-clause-here g c = c.loop-id.invariant.here

pub next_newcomer-requires-clause-sized : goal.next_newcomer-requires-clause-sized
next_newcomer-requires-clause-sized g c =
    subst (Sized c.args.board.now.table_id) (ap (λ m. m.0.comers) (sym c.loop-id.invariant.seat)) c.requires.sized

pub next_newcomer-requires-clause-next : goal.next_newcomer-requires-clause-next
next_newcomer-requires-clause-next g c =
    first c.args.board.now.key.tag
    (length c.args.ids.now) c.args.ids.now c.loop-id.id-index c.loop-id.dealer.me c.loop-id.invariant.seat c.loop-id-test.true

pub loop-id-preserved : goal.loop-id-preserved
loop-id-preserved g c =
    let i = c.loop-id.invariant in
    let table = c.args.board.now.table_id in
    let t = c.args.board.now.key.tag in
    let n = length c.args.ids.now in
    let id : ℕ = get_or c.args.ids.now c.loop-id.id-index 0 in
    let deal = newcomer_in table t n in
    let new : c.next_newcomer.result ≡ deal id =
    c.next_newcomer.ensures.newcomer
    ∙ (ap (λ z. newcomer_in z c.loop-id.dealer.me.0.tag c.loop-id.dealer.me.0.comers id) i.here
    ∙ (ap (λ m. newcomer_in table m.0.tag m.0.comers id) i.seat)) in
    record {
      here = c.next_newcomer.ensures.table ∙ i.here;
      seat = c.next_newcomer.ensures.dealer ∙ rest t n c.args.ids.now c.loop-id.id-index c.loop-id.dealer.me i.seat c.loop-id-test.true;
      dealt =
          c.in_ok-push.ensures.items ∙ dealt_more deal c.args.ids.now c.loop-id.id-index c.loop-id.newcomers.items c.next_newcomer.result
          i.dealt c.loop-id-test.true new;
    }
