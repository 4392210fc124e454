-- Lists of flushes, and of what tells of them, that stand one behind the other.
use Rattle.std.proofs.Common.{◌≡◌, ◌&&◌, List, [], ◌∷◌, ◌++◌, map, refl, sym, ap, ◌∙◌, append_assoc, append-nil}
use Rattle.std.specs.Prelude.{filter}
use Rattle.std.proofs.lemmas.List.{map-append}
use Rattle.std.proofs.lemmas.List.Elements.{filter-append, filter_map-append}
use Rattle.base_types.specs.declared.flushes.Flushed.{Flushed}
use Rattle.command_text.specs.declared.reply.Reply.{Reply}
use Rattle.machine.specs.State.{Event, HeadersStored, BodyStored, Flush}
use Rattle.machine.specs.Answers.{IsPrefix, FlushName, flushes_of, is_done, has_line, AllDone, AllDoneButLast, told_name, told_flushes, flushes_with_lines, flush_told_by, flushes_told_by}

-- ---- first parts

pub prefix_all : {A : Type 0} (xs : List A) → IsPrefix xs xs
prefix_all xs = ([], sym (append-nil xs))

pub prefix_none : {A : Type 0} (xs : List A) → IsPrefix [] xs
prefix_none xs = (xs, refl)

pub prefix_more : {A : Type 0} (xs ys zs : List A) → IsPrefix xs ys → IsPrefix xs (ys ++ zs)
prefix_more xs ys zs part = (part.0 ++ zs, ap (λ l. l ++ zs) part.1 ∙ append_assoc xs part.0 zs)

pub prefix_behind : {A : Type 0} (front xs ys : List A) → IsPrefix xs ys → IsPrefix (front ++ xs) (front ++ ys)
prefix_behind front xs ys part = (part.0, ap (λ l. front ++ l) part.1 ∙ sym (append_assoc front xs part.0))

-- ---- what flushes, replies and events have

pub told_flushes-append : (xs ys : List Flushed) → told_flushes (xs ++ ys) ≡ told_flushes xs ++ told_flushes ys
told_flushes-append xs ys =
    ap (map told_name) (filter-append (λ (f : Flushed). f.told) xs ys)
    ∙ map-append told_name (filter (λ (f : Flushed). f.told) xs) (filter (λ (f : Flushed). f.told) ys)

pub with_lines-append : (xs ys : List Flushed) → flushes_with_lines (xs ++ ys) ≡ flushes_with_lines xs ++ flushes_with_lines ys
with_lines-append xs ys =
    ap (map told_name) (filter-append (λ (f : Flushed). is_done f && has_line f.why) xs ys)
    ∙ map-append told_name (filter (λ (f : Flushed). is_done f && has_line f.why) xs) (filter (λ (f : Flushed). is_done f && has_line f.why) ys)

pub told_by-append : (xs ys : List Reply) → flushes_told_by (xs ++ ys) ≡ flushes_told_by xs ++ flushes_told_by ys
told_by-append xs ys = filter_map-append flush_told_by xs ys

pub flushes_of-append : (xs ys : List Event) → flushes_of (xs ++ ys) ≡ flushes_of xs ++ flushes_of ys
flushes_of-append [] ys = refl
flushes_of-append (Flush chain tip why touched ∷ xs) ys = ap (λ (l : List FlushName). (chain, tip, why) ∷ l) (flushes_of-append xs ys)
flushes_of-append (HeadersStored headers ∷ xs) ys = flushes_of-append xs ys
flushes_of-append (BodyStored hash block ∷ xs) ys = flushes_of-append xs ys

-- ---- flushes that are done

pub done-append : (xs ys : List Flushed) → AllDone xs → AllDone ys → AllDone (xs ++ ys)
done-append [] ys a b = b
done-append (x ∷ xs) ys a b = (a.0, done-append xs ys a.1 b)

pub done_but_last : (xs : List Flushed) → AllDone xs → AllDoneButLast xs
done_but_last [] all = tt
done_but_last (x ∷ []) all = tt
done_but_last (x ∷ y ∷ xs) all = (all.0, done_but_last (y ∷ xs) all.1)

pub unfinished-append : (xs ys : List Flushed) → AllDone xs → AllDoneButLast ys → AllDoneButLast (xs ++ ys)
unfinished-append [] ys a b = b
unfinished-append (x ∷ []) [] a b = tt
unfinished-append (x ∷ []) (y ∷ ys) a b = (a.0, b)
unfinished-append (x ∷ z ∷ xs) ys a b = (a.0, unfinished-append (z ∷ xs) ys a.1 b)
