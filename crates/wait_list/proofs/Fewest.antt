-- No list that is settled has fewer awake.
use Rattle.std.proofs.Common.{◌≡◌, ℕ, zero, suc, ◌+◌, ◌-◌, ◌≤◌, List, [], ◌∷◌, Bool, true, false, not, ◌&&◌, ◌==◌, cond, inl, inr, refl, sym, ◌∙◌, ap, subst, arith}
use Rattle.wait_list.specs.declared.group.Group.{Group}
use Rattle.wait_list.specs.declared.group.Group.TheVariants.{Everybody}
use Rattle.wait_list.specs.declared.waiter.Wants.{Wants}
use Rattle.wait_list.specs.declared.waiter.Wants.TheVariants.{Any, UpTo, Due, Alarm, Room, RoomUp}
use Rattle.wait_list.specs.declared.waiter.Waiter.{Waiter}
use Rattle.wait_list.specs.Waiters.{is_in, is_asleep, count_awake, woken}
use Rattle.wait_list.specs.Settled.{woken_first, enough_awake, all_awake, IsSameOrWoken, OnlyWakes}
use Rattle.std.proofs.Math.Bool.{and-false}
use Rattle.wait_list.proofs.OnlyWakings.{both}
use Rattle.wait_list.proofs.Settling.{never}

-- Kinds of waiters, by what they want.
abbrev pub Kind : Type 0
Kind = Wants → Bool

abbrev pub kind_of : Wants → ℕ
kind_of Any = 0
kind_of (UpTo b s) = 4
kind_of (Due w) = 1
kind_of (Alarm a) = 2
kind_of Room = 3
kind_of RoomUp = 5

abbrev pub kind : ℕ → Kind
kind k x = kind_of x == k

abbrev pub anyone : Kind
anyone w = true

-- how many of the kind are awake
abbrev pub count : Kind → List Waiter → ℕ
count t [] = 0
count t (w ∷ ws) = cond (w.is_woken && t w.wants) 1 0 + count t ws

pub count_anyone : (ws : List Waiter) → count_awake Everybody ws ≡ count anyone ws
count_anyone [] = refl
count_anyone (w ∷ ws) = ap (λ (n : ℕ). cond (w.is_woken && true) 1 0 + n) (count_anyone ws)

-- each is of one kind
one_kind : (b : Bool) (x : Wants)
    → cond (b && true) 1 0 ≡ cond (b && kind 0 x) 1 0 + cond (b && kind 1 x) 1 0 + cond (b && kind 2 x) 1 0 + cond (b && kind 3 x) 1 0 + cond (b && kind 4 x) 1 0 + cond (b && kind 5 x) 1 0
one_kind false x = refl
one_kind true Any = refl
one_kind true (UpTo b s) = refl
one_kind true (Due w) = refl
one_kind true (Alarm a) = refl
one_kind true Room = refl
one_kind true RoomUp = refl

pub by_kinds : (ws : List Waiter) → count_awake Everybody ws ≡ count (kind 0) ws + count (kind 1) ws + count (kind 2) ws + count (kind 3) ws + count (kind 4) ws + count (kind 5) ws
by_kinds [] = refl
by_kinds (w ∷ ws) = omega (arith, one_kind w.is_woken w.wants, by_kinds ws)

-- Those of a kind are the same, or more of them awake; the others want the same.
abbrev pub OnKind : Kind → List Waiter → List Waiter → Type 0
OnKind t [] [] = Unit {0}
OnKind t (v ∷ vs) (w ∷ ws) = ((t v.wants ≡ true → IsSameOrWoken v w) × (w.wants ≡ v.wants)) × OnKind t vs ws
OnKind t [] (w ∷ ws) = ⊥
OnKind t (v ∷ vs) [] = ⊥

-- Those of a kind are the same.
abbrev pub SameOn : Kind → List Waiter → List Waiter → Type 0
SameOn t [] [] = Unit {0}
SameOn t (v ∷ vs) (w ∷ ws) = ((t v.wants ≡ true → w ≡ v) × (w.wants ≡ v.wants)) × SameOn t vs ws
SameOn t [] (w ∷ ws) = ⊥
SameOn t (v ∷ vs) [] = ⊥

pub same_wants : (v w : Waiter) → IsSameOrWoken v w → w.wants ≡ v.wants
same_wants v w (inl e) = ap (λ (x : Waiter). x.wants) e
same_wants v w (inr e) = ap (λ (x : Waiter). x.wants) e

pub along_same : (t : Kind) (us vs ws : List Waiter) → SameOn t us vs → OnlyWakes us ws → OnKind t vs ws
along_same t [] [] [] s o = tt
along_same t [] [] (w ∷ ws) s o = absurd o
along_same t [] (v ∷ vs) ws s o = absurd s
along_same t (u ∷ us) [] ws s o = absurd s
along_same t (u ∷ us) (v ∷ vs) [] s o = absurd o
along_same t (u ∷ us) (v ∷ vs) (w ∷ ws) s o = (
  (
    λ h. let k : t u.wants ≡ true = subst (λ (x : Wants). t x ≡ true) s.0.1 h in subst (λ (x : Waiter). IsSameOrWoken x w) (sym (s.0.0 k)) o.0,
    same_wants u w o.0 ∙ sym s.0.1,
  ),
  along_same t us vs ws s.1 o.1,
)

pub same_refl : (t : Kind) (ws : List Waiter) → SameOn t ws ws
same_refl t [] = tt
same_refl t (w ∷ ws) = ((λ h. refl, refl), same_refl t ws)

pub same_trans : (t : Kind) (us vs ws : List Waiter) → SameOn t us vs → SameOn t vs ws → SameOn t us ws
same_trans t [] [] [] s o = tt
same_trans t [] [] (w ∷ ws) s o = absurd o
same_trans t [] (v ∷ vs) ws s o = absurd s
same_trans t (u ∷ us) [] ws s o = absurd s
same_trans t (u ∷ us) (v ∷ vs) [] s o = absurd o
same_trans t (u ∷ us) (v ∷ vs) (w ∷ ws) s o =
    ((λ h. o.0.0 (subst (λ (x : Wants). t x ≡ true) (sym s.0.1) h) ∙ s.0.0 h, o.0.1 ∙ s.0.1), same_trans t us vs ws s.1 o.1)

-- of a kind, or not
same_one : (t : Kind) (v w : Waiter) (b : Bool) → t v.wants ≡ b → (t v.wants ≡ true → w ≡ v) → w.wants ≡ v.wants → (n m : ℕ) → n ≡ m
    → cond (w.is_woken && t w.wants) 1 0 + n ≡ cond (v.is_woken && t v.wants) 1 0 + m
same_one t v w true e f g n m r = let same : w ≡ v = f e in rw (same, r) refl
same_one t v w false e f g n m r = rw (g, e, and-false, and-false, r) refl

pub same_count : (t : Kind) (vs ws : List Waiter) → SameOn t vs ws → count t ws ≡ count t vs
same_count t [] [] s = refl
same_count t [] (w ∷ ws) s = absurd s
same_count t (v ∷ vs) [] s = absurd s
same_count t (v ∷ vs) (w ∷ ws) s = let rest = same_count t vs ws s.1 in same_one t v w (t v.wants) refl s.0.0 s.0.1 (count t ws) (count t vs) rest

-- A group that has nobody of the kind.
abbrev pub Apart : Group → Kind → Type 0
Apart g t = (x : Wants) → is_in g x ≡ true → t x ≡ false

-- A group of the kind.
abbrev pub Within : Group → Kind → Type 0
Within g t = (x : Wants) → is_in g x ≡ true → t x ≡ true

pub of_group : (g : Group) (w : Waiter) → is_asleep g w ≡ true → is_in g w.wants ≡ true
of_group g w h = (both (not w.is_woken) (is_in g w.wants) h).1

same_if_asleep : (g : Group) (t : Kind) (w : Waiter) (b : Bool) → Apart g t → is_asleep g w ≡ b → t w.wants ≡ true → cond b (woken w) w ≡ w
same_if_asleep g t w true a e h = absurd (never (t w.wants) (a w.wants (of_group g w e)) h)
same_if_asleep g t w false a e h = refl

same_first_by : (n : ℕ) (g : Group) (t : Kind) (w : Waiter) (ws : List Waiter) (b : Bool) → Apart g t → is_asleep g w ≡ b → SameOn t ws (woken_first n g ws)
    → SameOn t ws (woken_first (suc n) g ws) → SameOn t (w ∷ ws) (cond b (woken w ∷ woken_first n g ws) (w ∷ woken_first (suc n) g ws))
same_first_by n g t w ws true a e s r = ((same_if_asleep g t w true a e, refl), s)
same_first_by n g t w ws false a e s r = ((λ h. refl, refl), r)

same_first : (n : ℕ) (g : Group) (t : Kind) → Apart g t → (ws : List Waiter) → SameOn t ws (woken_first n g ws)
same_first n g t a [] = tt
same_first zero g t a (w ∷ ws) = same_refl t (w ∷ ws)
same_first (suc n) g t a (w ∷ ws) = same_first_by n g t w ws (is_asleep g w) a refl (same_first n g t a ws) (same_first (suc n) g t a ws)

pub same_enough : (n : ℕ) (g : Group) (t : Kind) → Apart g t → (ws : List Waiter) → SameOn t ws (enough_awake n g ws)
same_enough n g t a ws = same_first (n - count_awake g ws) g t a ws

pub same_wants_if : (b : Bool) (w : Waiter) → (cond b (woken w) w).wants ≡ w.wants
same_wants_if true w = refl
same_wants_if false w = refl

pub same_all_awake : (g : Group) (t : Kind) → Apart g t → (ws : List Waiter) → SameOn t ws (all_awake g ws)
same_all_awake g t a [] = tt
same_all_awake g t a (w ∷ ws) = ((same_if_asleep g t w (is_asleep g w) a refl, same_wants_if (is_asleep g w) w), same_all_awake g t a ws)

-- More awake are more.
less_than_all : (a b : Bool) → cond (a && b) 1 0 ≤ cond b 1 0
less_than_all true b = omega arith
less_than_all false b = omega arith

more_woken : (t : Kind) (v w : Waiter) → IsSameOrWoken v w → cond (v.is_woken && t v.wants) 1 0 ≤ cond (w.is_woken && t w.wants) 1 0
more_woken t v w (inl e) = rw e (omega arith)
more_woken t v w (inr e) = rw e (less_than_all v.is_woken (t v.wants))

pub more_one : (t : Kind) (v w : Waiter) (b : Bool) → t v.wants ≡ b → (t v.wants ≡ true → IsSameOrWoken v w) → w.wants ≡ v.wants
    → cond (v.is_woken && t v.wants) 1 0 ≤ cond (w.is_woken && t w.wants) 1 0
more_one t v w true e f g = more_woken t v w (f e)
more_one t v w false e f g = rw (g, e, and-false, and-false) (omega arith)

pub more_count : (t : Kind) (vs ws : List Waiter) → OnKind t vs ws → count t vs ≤ count t ws
more_count t [] [] o = omega arith
more_count t [] (w ∷ ws) o = absurd o
more_count t (v ∷ vs) [] o = absurd o
more_count t (v ∷ vs) (w ∷ ws) o = omega (arith, more_one t v w (t v.wants) refl o.0.0 o.0.1, more_count t vs ws o.1)
