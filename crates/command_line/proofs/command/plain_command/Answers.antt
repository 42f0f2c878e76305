use Rattle.std.proofs.Common.{arith, map, string_bytes, refl}
use Rattle.command_line.proofs.Forms.{five_are, six_are, seven_are, words_of_five, words_of_six, words_of_seven}
use Rattle.command_line.proofs.FormLaws.{plain_as}
use Rattle.command_line.proofs.command.plain_command.Goals as goal

pub returns-in-len5 : goal.returns-in-len5
returns-in-len5 c =
    let are = five_are c.args.words.now c.word-item-then-words-lt6.result c.first-item-then-words-lt6.result c.second-item-then-words-lt6.result c.third-item-then-words-lt6.result c.fourth-item.result (omega arith) (omega arith) c.word-item-then-words-lt6.is c.first-item-then-words-lt6.is c.second-item-then-words-lt6.is c.third-item-then-words-lt6.is c.fourth-item.is in
    plain_as (map string_bytes c.args.words.now) _ c.of_four.result
    (words_of_five (map string_bytes c.args.words.now) c.args.words.now c.word-item-then-words-lt6.result c.first-item-then-words-lt6.result c.second-item-then-words-lt6.result c.third-item-then-words-lt6.result c.fourth-item.result _ _ _ _ _ refl are
    c.as_str-in-len5.ensures.value c.as_str-in-len5-2.ensures.value c.as_str-in-len5-3.ensures.value c.as_str-in-len5-4.ensures.value c.as_str-in-len5-5.ensures.value)
    c.of_four.ensures

pub returns-in-len6 : goal.returns-in-len6
returns-in-len6 c =
    let are = six_are c.args.words.now c.word-item-then-words-lt7.result c.first-item-then-words-lt7.result c.second-item-then-words-lt7.result c.third-item-then-words-lt7.result c.fourth-item-then-words-lt7.result c.fifth-item.result (omega arith) (omega arith) c.word-item-then-words-lt7.is c.first-item-then-words-lt7.is c.second-item-then-words-lt7.is c.third-item-then-words-lt7.is c.fourth-item-then-words-lt7.is c.fifth-item.is in
    plain_as (map string_bytes c.args.words.now) _ c.of_five.result
    (words_of_six (map string_bytes c.args.words.now) c.args.words.now c.word-item-then-words-lt7.result c.first-item-then-words-lt7.result c.second-item-then-words-lt7.result c.third-item-then-words-lt7.result c.fourth-item-then-words-lt7.result c.fifth-item.result _ _ _ _ _ _ refl are
    c.as_str-in-len6.ensures.value c.as_str-in-len6-2.ensures.value c.as_str-in-len6-3.ensures.value c.as_str-in-len6-4.ensures.value c.as_str-in-len6-5.ensures.value c.as_str-in-len6-6.ensures.value)
    c.of_five.ensures

pub returns-in-len7 : goal.returns-in-len7
returns-in-len7 c =
    let are = seven_are c.args.words.now c.word-item-then-words-lt8.result c.first-item-then-words-lt8.result c.second-item-then-words-lt8.result c.third-item-then-words-lt8.result c.fourth-item-then-words-lt8.result c.fifth-item-then-words-lt8.result c.sixth-item.result (omega arith) (omega arith) c.word-item-then-words-lt8.is c.first-item-then-words-lt8.is c.second-item-then-words-lt8.is c.third-item-then-words-lt8.is c.fourth-item-then-words-lt8.is c.fifth-item-then-words-lt8.is c.sixth-item.is in
    plain_as (map string_bytes c.args.words.now) _ c.of_six.result
    (words_of_seven (map string_bytes c.args.words.now) c.args.words.now c.word-item-then-words-lt8.result c.first-item-then-words-lt8.result c.second-item-then-words-lt8.result c.third-item-then-words-lt8.result c.fourth-item-then-words-lt8.result c.fifth-item-then-words-lt8.result c.sixth-item.result _ _ _ _ _ _ _ refl are
    c.as_str-in-len7.ensures.value c.as_str-in-len7-2.ensures.value c.as_str-in-len7-3.ensures.value c.as_str-in-len7-4.ensures.value c.as_str-in-len7-5.ensures.value c.as_str-in-len7-6.ensures.value c.as_str-in-len7-7.ensures.value)
    c.of_six.ensures
