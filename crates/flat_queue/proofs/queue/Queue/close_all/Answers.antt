use Rattle.std.proofs.Common.{◌+◌, ◌-◌, [], length, map, subst, sym, ◌∙◌, ap, arith}
use Rattle.std.proofs.lemmas.List.{length-map}
use Rattle.announce_board.specs.Opening.{HasAll, IsHomeWithAll, AllKnow, LinesAreOfThese, HavePlaces}
use Rattle.announce_board.specs.Testimonies.{Testified}
use Rattle.flat_queue.specs.Closing.{retired_pen}
use Rattle.flat_queue.specs.Gathered.{Gathers}
use Rattle.flat_queue.specs.Members.{QueueName}
use Rattle.flat_queue.proofs.Closes.{has_all, is_some, is_told, closes_all}
use Rattle.flat_queue.proofs.queue.Queue.close_all.Goals as goal

pub unwrap-all-requires : goal.unwrap-all-requires
unwrap-all-requires g c =
    let table = c.self.inside.desk.table in
    let pens = map retired_pen c.args.members.items in
    let n = length c.args.newcomers.items in
    let more = c.self.inside.desk.places - c.self.inside.grid.comers in
    let all = c.requires.all in let comers = ap (λ (q : QueueName). q.comers) c.self.view_is in
    let some = c.self.invariant.some in let few = c.self.invariant.few in
    let counted = length-map c.args.members.items retired_pen in
    is_some table pens (n + more) c.all_of.result (omega arith) (c.all_of.ensures.gathers more (subst (Gathers table [] more) (sym c.into_licences.ensures) c.self.invariant.licensed))

pub close_all-requires-clause-table : goal.close_all-requires-clause-table
close_all-requires-clause-table g c =
    let table = c.self.inside.desk.table in
    let pens = map retired_pen c.args.members.items in
    let n = length c.args.newcomers.items in
    let more = c.self.inside.desk.places - c.self.inside.grid.comers in
    let whole = c.all_of.ensures.gathers more (subst (Gathers table [] more) (sym c.into_licences.ensures) c.self.invariant.licensed) in
    ap (λ (t : Testified). t.table) (is_told table pens (n + more) c.all_of.result c.unwrap-all.result c.unwrap-all.ensures whole)

pub close_all-requires-clause-all : goal.close_all-requires-clause-all
close_all-requires-clause-all g c =
    let table = c.self.inside.desk.table in
    let members = c.args.members.items in
    let pens = map retired_pen members in
    let n = length c.args.newcomers.items in
    let places = c.self.inside.desk.places in
    let comers = c.self.inside.grid.comers in
    let more = places - comers in
    let whole = c.all_of.ensures.gathers more (subst (Gathers table [] more) (sym c.into_licences.ensures) c.self.invariant.licensed) in
    let told = is_told table pens (n + more) c.all_of.result c.unwrap-all.result c.unwrap-all.ensures whole in
    subst (λ (t : Testified). HasAll places t.pens t.licences) (sym told)
    (has_all members places comers n (c.requires.all ∙ sym (ap (λ (q : QueueName). q.comers) c.self.view_is)) c.self.invariant.few)

pub returns : goal.returns
returns g c =
    let table = c.self.inside.desk.table in
    let members = c.args.members.items in
    let pens = map retired_pen members in
    let n = length c.args.newcomers.items in
    let more = c.self.inside.desk.places - c.self.inside.grid.comers in
    let whole = c.all_of.ensures.gathers more (subst (Gathers table [] more) (sym c.into_licences.ensures) c.self.invariant.licensed) in
    let told = ap (λ (t : Testified). t.pens) (is_told table pens (n + more) c.all_of.result c.unwrap-all.result c.unwrap-all.ensures whole) in
    let book = c.close_all.result in
    closes_all c.args.self members book c.requires.members c.all_of.ensures.rooms c.law_closed_are_linearized.ensures
    (subst (λ (q : QueueName). IsHomeWithAll q.room q.terms pens book) c.self.view_is
    (subst (λ ps. IsHomeWithAll c.self.inside.desk.room c.self.inside.desk.terms ps book) told c.close_all.ensures.home))
    (subst (λ ps. AllKnow ps book) told c.close_all.ensures.knows)
    (subst (λ ps. LinesAreOfThese ps book.journal) told c.close_all.ensures.only)
    (subst (λ k. HavePlaces k pens) (ap (λ (q : QueueName). q.places) c.self.view_is) (subst (λ ps. HavePlaces c.self.inside.desk.places ps) told c.close_all.ensures.placed))
