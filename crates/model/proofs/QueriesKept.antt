-- Queries are kept.
use Rattle.std.proofs.Common.{◌≡◌, ℕ, ◌+◌, ◌<◌, Bool, true, false, cond, eqb, ◌⊎◌, List, [], ◌∷◌, length, Some, None, Option, sym, refl, ap, subst, inl, inr, ⊎_elim, arith}
use mathlib.Core.Bool.{false≢true}
use Rattle.std.proofs.lemmas.Bool.{eq-eqb, eqb-true, eqb-false}
use Rattle.kinds.specs.Rules.{Model}
use Rattle.buckets.specs.Rows.{In}
use Rattle.open_queries.specs.declared.entry.Stage.{Stage}
use Rattle.open_queries.specs.declared.entry.Stage.TheVariants.{Open, InHand}
use Rattle.open_queries.specs.declared.handover.Handover.{Handover}
use Rattle.open_queries.specs.Calls.{first_serial}
use Rattle.model.specs.Events.{Query, query_by, unspent, Event, entered, moved, left, asked, taken, collected, handed_over, returned, given_up, refused, History}
use Rattle.model.specs.Changes.{Change, opens, collects, hands_over, puts_back, gives_up, is_hand_over, is_give_up, query_in, is_open, is_in_hand}
use Rattle.model.specs.Histories.{Box, count, passes, with_query, staged_by, asked_by, query_change, asked_in, stage, asker, serials, hand_overs, give_ups, next_serial}
use Rattle.model.specs.Outcomes.{Life}
use Rattle.model.specs.Laws.{Distinct, ends, endings, Put, newest, earlier, EventNamesAsker, EachNamesAsker, Kept}
use Rattle.model.proofs.Checks.{accepted_passed, unless_passed}
use Rattle.model.proofs.Counts.{in_cons, bit, count_cons, times, times_none, times_in, times_once, count_apart, count_set}

-- 1 where a query stands.
abbrev pub live : Option Stage → ℕ
live x = bit (is_open x) + bit (is_in_hand x)

-- What holds of the serials given, the stage of each, and how many ended, in all and each.
record Sound (first : ℕ) (xs : List ℕ) (f : ℕ → Option Stage) (handed given : ℕ) (ended : ℕ → ℕ) : Type 0 where
  below : (s : ℕ) → In s xs → s < first + length xs
  apart : Distinct xs
  balance : length xs ≡ handed + given + count (λ s. is_open (f s)) xs + count (λ s. is_in_hand (f s)) xs
  once : (s : ℕ) → ended s + live (f s) ≡ times s xs

-- What an accepted call found: the next serial, an open query, or one in hand.
abbrev pub Fits : ℕ → (ℕ → Option Stage) → Option Change → Type 0
Fits next f None = Unit {0}
Fits next f (Some (opens q)) = q.serial ≡ next
Fits next f (Some (collects s)) = is_open (f s) ≡ true
Fits next f (Some (hands_over s)) = is_in_hand (f s) ≡ true
Fits next f (Some (puts_back s)) = is_in_hand (f s) ≡ true
Fits next f (Some (gives_up s)) = is_open (f s) ≡ true

open_live : (x : Option Stage) → is_open x ≡ true → live x ≡ 1
open_live None e = absurd (false≢true e)
open_live (Some Open) e = refl
open_live (Some InHand) e = absurd (false≢true e)

in_hand_live : (x : Option Stage) → is_in_hand x ≡ true → live x ≡ 1
in_hand_live None e = absurd (false≢true e)
in_hand_live (Some Open) e = absurd (false≢true e)
in_hand_live (Some InHand) e = refl

abbrev Stepped : Option Change → ℕ → List ℕ → (ℕ → Option Stage) → ℕ → ℕ → (ℕ → ℕ) → Type 0
Stepped c first xs f handed given ended =
    Sound first (with_query (elim c [ None ↦ None | Some d ↦ query_in d ]) xs) (λ s. staged_by c s (f s))
    (cond (passes is_hand_over c) (1 + handed) handed) (cond (passes is_give_up c) (1 + given) given)
    (λ s. cond (passes (ends s) c) (1 + ended s) (ended s))

module _ {first : ℕ} {xs : List ℕ} {f : ℕ → Option Stage} {handed given : ℕ} {ended : ℕ → ℕ} (i : Sound first xs f handed given ended) where
  was_given : (s : ℕ) → live (f s) ≡ 1 → In s xs
  was_given s l = times_in s xs (let o = i.once s in omega arith)

  -- A query that stands changes its stage and still stands.
  turned : (s : ℕ) (x : Option Stage) → live (f s) ≡ 1 → live x ≡ 1
      → Sound first xs (λ t. cond (eqb s t) x (f t)) handed given ended
  turned s x l k =
      let m = was_given s l in
      record {
        below = i.below;
        apart = i.apart;
        balance =
            let o = count_set is_open f s x xs i.apart m in
            let h = count_set is_in_hand f s x xs i.apart m in
            let q = i.balance in
            omega arith;
        once = λ t. go t (eqb s t) refl;
      }
    where
      go : (t : ℕ) (b : Bool) → eqb s t ≡ b → ended t + live (cond b x (f t)) ≡ times t xs
      go t true e =
          let y : live (f t) ≡ 1 = subst (λ u. live (f u) ≡ 1) (eqb-true s t e) l in
          let o = i.once t in
          omega arith
      go t false e = i.once t

  -- A query that stands ends.
  closed : (s handed' given' : ℕ) → handed' + given' ≡ handed + given + 1 → live (f s) ≡ 1
      → Sound first xs (λ t. cond (eqb s t) None (f t)) handed' given' (λ t. cond (eqb s t) (1 + ended t) (ended t))
  closed s handed' given' more l =
      let m = was_given s l in
      record {
        below = i.below;
        apart = i.apart;
        balance =
            let o = count_set is_open f s None xs i.apart m in
            let h = count_set is_in_hand f s None xs i.apart m in
            let q = i.balance in
            omega arith;
        once = λ t. go t (eqb s t) refl;
      }
    where
      go : (t : ℕ) (b : Bool) → eqb s t ≡ b → cond b (1 + ended t) (ended t) + live (cond b None (f t)) ≡ times t xs
      go t true e =
          let y : live (f t) ≡ 1 = subst (λ u. live (f u) ≡ 1) (eqb-true s t e) l in
          let o = i.once t in
          omega arith
      go t false e = i.once t

  -- A new query gets a serial that was not given before.
  added : (s : ℕ) → s ≡ first + length xs → Sound first (s ∷ xs) (λ t. cond (eqb s t) (Some Open) (f t)) handed given ended
  added s es =
      record {
        below = λ t m. ⊎_elim (λ q. omega arith) (λ j. let b = i.below t j in omega arith) (in_cons m);
        apart = (fresh, i.apart);
        balance =
            let o = count_apart is_open f s (Some Open) xs fresh in
            let h = count_apart is_in_hand f s (Some Open) xs fresh in
            let a = count_cons (λ t. is_open (cond (eqb s t) (Some Open) (f t))) s xs in
            let c = count_cons (λ t. is_in_hand (cond (eqb s t) (Some Open) (f t))) s xs in
            let e = eq-eqb s s refl in
            let a' : bit (is_open (cond (eqb s s) (Some Open) (f s))) ≡ 1 = rw e in
            let c' : bit (is_in_hand (cond (eqb s s) (Some Open) (f s))) ≡ 0 = rw e in
            let q = i.balance in
            omega (arith, a, c);
        once = λ t. go t (eqb s t) refl;
      }
    where
      fresh : In s xs → ⊥
      fresh m = let b = i.below s m in omega arith

      go : (t : ℕ) (b : Bool) → eqb s t ≡ b → ended t + live (cond b (Some Open) (f t)) ≡ cond b (1 + times t xs) (times t xs)
      go t true e =
          let z = times_none t xs (subst (λ u. In u xs → ⊥) (eqb-true s t e) fresh) in
          let o = i.once t in
          omega arith
      go t false e = i.once t

  stepped : (c : Option Change) → Fits (first + length xs) f c → Stepped c first xs f handed given ended
  stepped None fit = i
  stepped (Some (opens q)) fit = added q.serial fit
  stepped (Some (collects s)) fit = turned s (Some InHand) (open_live (f s) fit) refl
  stepped (Some (hands_over s)) fit = closed s (1 + handed) given (omega arith) (in_hand_live (f s) fit)
  stepped (Some (puts_back s)) fit = turned s (Some Open) (in_hand_live (f s) fit) refl
  stepped (Some (gives_up s)) fit = closed s handed (1 + given) (omega arith) (open_live (f s) fit)

module _ {P R : Type 0} {m : Model P R} (box : Box m) where
  pub fits : (e : Event P) (h : History P) → Life box (e ∷ h) → Fits (next_serial box h) (stage h) (query_change e)
  fits (entered n p) h l = tt
  fits (moved n p) h l = tt
  fits (left n) h l = tt
  fits (asked q) h l =
      let z : q ≡ query_by q.set q.size q.text (next_serial box h) = cc (accepted_passed box (asked q) h refl l).1 in
      ap (λ (x : Query). x.serial) z
  fits (taken b c) h l = tt
  fits (collected s g) h l = unless_passed (is_open (stage h s)) _ (accepted_passed box (collected s g) h refl l).0.0
  fits (handed_over g n) h l =
      unless_passed (is_in_hand (stage h g.serial)) _ (accepted_passed box (handed_over g n) h refl l).0.0
  fits (returned g n) h l =
      unless_passed (is_in_hand (stage h g.serial)) _ (accepted_passed box (returned g n) h refl l).0.0
  fits (given_up s) h l = unless_passed (is_open (stage h s)) _ (accepted_passed box (given_up s) h refl l).0.0
  fits (refused c r b) h l = tt

  abbrev SoundAfter : History P → Type 0
  SoundAfter h = Sound (first_serial box.first) (serials h) (stage h) (hand_overs h) (give_ups h) (λ s. endings s h)

  sound : (h : History P) → Life box h → SoundAfter h
  sound [] l = record { below = λ s i. elim i [ ]; apart = tt; balance = refl; once = λ s. refl }
  sound (e ∷ h) l = stepped (sound h l.1) (query_change e) (fits e h l)

  put_by : (h : History P) (s : ℕ) → In s (serials h) → Put (asker h s) s h
  put_by [] s i = elim i [ ]
  put_by (e ∷ h) s i = go (asked_in e) refl i (put_by h s)
    where
      find : (q : Query) → asked_in e ≡ Some q → (b : Bool) → eqb q.serial s ≡ b → (s ≡ q.serial) ⊎ In s (serials h)
          → (In s (serials h) → Put (asker h s) s h) → Put (cond b q.set (asker h s)) s (e ∷ h)
      find q z true t j rest =
          newest (subst (λ u. asked_in e ≡ Some (query_by q.set q.size q.text u)) (eqb-true q.serial s t) z)
      find q z false t (inl y) rest = absurd (eqb-false q.serial s t (sym y))
      find q z false t (inr j) rest = earlier (rest j)

      go : (o : Option Query) → asked_in e ≡ o → In s (with_query o (serials h)) → (In s (serials h) → Put (asker h s) s h)
          → Put (asked_by o s (asker h s)) s (e ∷ h)
      go None z j rest = earlier (rest j)
      go (Some q) z j rest = find q z (eqb q.serial s) refl (in_cons j) rest

  asker_put : (h : History P) → Life box h → (s n : ℕ) → live (stage h s) ≡ 1 → n ≡ asker h s → Put n s h
  asker_put h l s n v e = subst (λ u. Put u s h) (sym e) (put_by h s (was_given (sound h l) s v))

  names_asker : (e : Event P) (h : History P) → Life box (e ∷ h) → EventNamesAsker h e
  names_asker (entered n p) h l = tt
  names_asker (moved n p) h l = tt
  names_asker (left n) h l = tt
  names_asker (asked q) h l = tt
  names_asker (taken b c) h l = tt
  names_asker (collected s g) h l =
      let z : g ≡ unspent s (asker h s) = cc (accepted_passed box (collected s g) h refl l).1 in (
        ap (λ (x : Handover). x.serial) z,
        asker_put h l.1 s g.set (open_live (stage h s) (fits (collected s g) h l)) (ap (λ (x : Handover). x.set) z),
      )
  names_asker (handed_over g n) h l =
      asker_put h l.1 g.serial n (in_hand_live (stage h g.serial) (fits (handed_over g n) h l))
      (cc (accepted_passed box (handed_over g n) h refl l).1)
  names_asker (returned g n) h l =
      asker_put h l.1 g.serial n (in_hand_live (stage h g.serial) (fits (returned g n) h l))
      (cc (accepted_passed box (returned g n) h refl l).1)
  names_asker (given_up s) h l = tt
  names_asker (refused c r b) h l = tt

  each_names_asker : (h : History P) → Life box h → EachNamesAsker h
  each_names_asker [] l = tt
  each_names_asker (e ∷ h) l = (names_asker e h l, each_names_asker h l.1)

  pub queries_kept : (h : History P) → Life box h → Kept 1 h
  queries_kept h l =
      let i = sound h l in
      record {
        balance = i.balance;
        own_serials = i.apart;
        ended = λ s. let o = i.once s in let t = times_once s (serials h) i.apart in omega arith;
        named = each_names_asker h l;
      }

  pub given_below : (h : History P) → Life box h → (s : ℕ) → In s (serials h) → s < next_serial box h
  given_below h l s i = (sound h l).below s i
