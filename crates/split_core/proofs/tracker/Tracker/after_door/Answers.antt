use Rattle.std.proofs.Common.{◌≡◌, ◌≤◌, ◌+◌, inl, inr, List, ℕ, arith}
use Rattle.split_core.specs.TrailReads.{trail_by, TrailMoment}
use Rattle.split_core.proofs.Trackers.{IsLeast, few_doors, few_places, shut_within, stays_lawful, next_lawful, stores_on, stores_next}
use Rattle.split_core.proofs.tracker.Tracker.after_door.Goals as goal
use Rattle.split_core.proofs.tracker.Tracker.after_door.Goals.{else-unread-eq0-via-then-unread-eq0+else-self-comers}
use Rattle.split_core.proofs.tracker.Tracker.after_door.Goals.{else-unread-eq0-via-else-unread-eq0}

pub overflow_add-doors : goal.overflow_add-doors
overflow_add-doors c =
    let t = c.args.self in
    let least : IsLeast t.unread c.least_row-row.result = record { set = c.least_row-row.ensures.set; least = c.least_row-row.ensures.least } in
    omega (arith, few_doors c.args.comers t.diagonal t.first t.unread t.shut t.doors c.requires.lawful c.least_row-row.result least)

pub overflow_add-result-then-self-comers : goal.overflow_add-result-then-self-comers
overflow_add-result-then-self-comers c =
    let law = c.requires.lawful in
    omega (arith, law.first, few_places c.args.comers c.args.self.diagonal law.few law.inside, law.few, law.inside)

pub overflow_add-result-then-self-comers-2 : goal.overflow_add-result-then-self-comers-2
overflow_add-result-then-self-comers-2 c =
    let law = c.requires.lawful in
    omega (arith, law.first, few_places c.args.comers c.args.self.diagonal law.few law.inside, law.few, law.inside)

pub rows_led_to-requires : goal.rows_led_to-requires
rows_led_to-requires c r b =
    let t = c.args.self in
    let least : IsLeast t.unread c.least_row-row.result = record { set = c.least_row-row.ensures.set; least = c.least_row-row.ensures.least } in
    let within = shut_within c.args.comers t.diagonal t.first t.unread t.shut t.doors c.requires.lawful c.least_row-row.result least
    c.without_least-unread.result c.with_row_if-shut.result
    c.without_least-unread.ensures (λ q h. elim ((c.with_row_if-shut.ensures q).0 h) [ inl x ↦ inl x | inr x ↦ inr x.1 ]) r b in
    omega (arith, within, c.if-self-comers.true, c.requires.lawful.few)

pub returns-then-self-comers-clause-lawful : goal.returns-then-self-comers-clause-lawful
returns-then-self-comers-clause-lawful c =
    let t = c.args.self in
    let least : IsLeast t.unread c.least_row-row.result = record { set = c.least_row-row.ensures.set; least = c.least_row-row.ensures.least } in
    next_lawful c.args.comers t.diagonal t.first t.unread t.shut t.doors c.requires.lawful c.least_row-row.result least c.without_least-unread.result
    c.with_row_if-shut.result
    c.without_least-unread.ensures (λ q h. elim ((c.with_row_if-shut.ensures q).0 h) [ inl x ↦ inl x | inr x ↦ inr x.1 ])
    c.rows_led_to.result c.rows_led_to.ensures c.if-self-comers.true

pub returns-then-self-comers-clause-stores : goal.returns-then-self-comers-clause-stores
returns-then-self-comers-clause-stores c words word told st =
    let t = c.args.self in
    let least : IsLeast t.unread c.least_row-row.result = record { set = c.least_row-row.ensures.set; least = c.least_row-row.ensures.least } in
    let moments : (words : List ℕ) → TrailMoment c.args.comers (trail_by c.args.comers words) =
    λ ws. c.law_trail_reads.ensures.moments c.args.comers ws (omega (arith, c.requires.lawful.inside)) in
    stores_next c.args.comers t.diagonal t.first t.unread t.shut t.doors c.requires.lawful c.least_row-row.result least moments c.args.closed
    c.without_least-unread.result c.with_row_if-shut.result
    c.without_least-unread.ensures c.with_row_if-shut.ensures words word told st c.rows_led_to.result c.rows_led_to.ensures
    c.if-unread-eq0.true c.if-self-comers.true

pub returns-else-unread-eq0-clause-lawful : goal.returns-else-unread-eq0-clause-lawful
returns-else-unread-eq0-clause-lawful c =
    let t = c.args.self in
    let least : IsLeast t.unread c.least_row-row.result = record { set = c.least_row-row.ensures.set; least = c.least_row-row.ensures.least } in
    stays_lawful c.args.comers t.diagonal t.first t.unread t.shut t.doors c.requires.lawful c.least_row-row.result least
    c.without_least-unread.result c.with_row_if-shut.result
    c.without_least-unread.ensures (λ q h. elim ((c.with_row_if-shut.ensures q).0 h) [ inl x ↦ inl x | inr x ↦ inr x.1 ])

pub returns-else-unread-eq0-clause-stores : goal.returns-else-unread-eq0-clause-stores
returns-else-unread-eq0-clause-stores c words word told st =
    let t = c.args.self in
    let least : IsLeast t.unread c.least_row-row.result = record { set = c.least_row-row.ensures.set; least = c.least_row-row.ensures.least } in
    let moments : (words : List ℕ) → TrailMoment c.args.comers (trail_by c.args.comers words) =
    λ ws. c.law_trail_reads.ensures.moments c.args.comers ws (omega (arith, c.requires.lawful.inside)) in
    let end : c.without_least-unread.result ≡ 0 → c.args.comers ≤ t.diagonal + 1 =
    elim c.else-unread-eq0.branch [
      | else-unread-eq0-via-then-unread-eq0+else-self-comers w ↦ λ _. omega (arith, w.if-self-comers.false)
      | else-unread-eq0-via-else-unread-eq0 w ↦ λ e. absurd (w.if-unread-eq0.false e)
    ] in
    stores_on c.args.comers t.diagonal t.first t.unread t.shut t.doors c.requires.lawful c.least_row-row.result least moments c.args.closed
    c.without_least-unread.result c.with_row_if-shut.result
    c.without_least-unread.ensures c.with_row_if-shut.ensures words word told st end
