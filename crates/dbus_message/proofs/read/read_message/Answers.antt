use Rattle.std.proofs.Common.{◌≡◌, true, Ok, Err, sym, ap, ◌∙◌}
use Rattle.std.specs.Prelude.{IsTrue, ◌==◌}
use Rattle.std.specs.List.{list_all}
use Rattle.std.specs.Option.{option_copied}
use Rattle.dbus_message.specs.Header.{kind_of, padding_bytes}
use Rattle.dbus_message.specs.Fields.{are_good, has_needed, text_of}
use Rattle.dbus_message.proofs.ReadMessage.{fields_failed, bad_fields, bad_needed, bad_padding, body_failed, message_read, not_true, fields_at, padding_at, content_at}
use Rattle.dbus_message.proofs.KnownFields.{good_from, needed_from, text_from, says_from}
use Rattle.dbus_message.proofs.read.read_message.Goals as goal

pub returns-then-not-are_good : goal.returns-then-not-are_good
returns-then-not-are_good c =
    let bytes = c.args.bytes.now in
    let end = c.fields_end-end.result in
    let is = fields_at bytes c.endian_of-endian.result end (Ok c.in-Ok.fields) c.endian_of-endian.ensures c.fields_end-end.ensures.at c.in-Ok.ensures in
    let other = not_true c.are_good.result (are_good is.0.0) (c.are_good.ensures ∙ (ap are_good c.as_slice.ensures ∙ good_from bytes c.in-Ok.fields is.0)) c.if-not-are_good.true in
    let a = bad_fields bytes c.requires is.0.0 is.0.2 other in
    record { reading = a.reading; only = a.only; refused = a.refused }

pub returns-then-not-has_needed : goal.returns-then-not-has_needed
returns-then-not-has_needed c =
    let bytes = c.args.bytes.now in
    let end = c.fields_end-end.result in
    let is = fields_at bytes c.endian_of-endian.result end (Ok c.in-Ok.fields) c.endian_of-endian.ensures c.fields_end-end.ensures.at c.in-Ok.ensures in
    let keeps : are_good is.0.0 ≡ true = sym (c.are_good.ensures ∙ (ap are_good c.as_slice.ensures ∙ good_from bytes c.in-Ok.fields is.0)) ∙ c.if-not-are_good.false in
    let other = not_true c.has_needed.result (has_needed (kind_of bytes) is.0.0) (c.has_needed.ensures ∙ (ap (has_needed (kind_of bytes)) c.as_slice-2.ensures ∙ needed_from bytes c.in-Ok.fields is.0 (kind_of bytes))) c.if-not-has_needed.true in
    let a = bad_needed bytes c.requires is.0.0 is.0.2 keeps other in
    record { reading = a.reading; only = a.only; refused = a.refused }

pub returns-then-not-are_zeros : goal.returns-then-not-are_zeros
returns-then-not-are_zeros c =
    let bytes = c.args.bytes.now in
    let end = c.fields_end-end.result in
    let start = c.body_start-start.result in
    let is = fields_at bytes c.endian_of-endian.result end (Ok c.in-Ok.fields) c.endian_of-endian.ensures c.fields_end-end.ensures.at c.in-Ok.ensures in
    let keeps : are_good is.0.0 ≡ true = sym (c.are_good.ensures ∙ (ap are_good c.as_slice.ensures ∙ good_from bytes c.in-Ok.fields is.0)) ∙ c.if-not-are_good.false in
    let all : has_needed (kind_of bytes) is.0.0 ≡ true = sym (c.has_needed.ensures ∙ (ap (has_needed (kind_of bytes)) c.as_slice-2.ensures ∙ needed_from bytes c.in-Ok.fields is.0 (kind_of bytes))) ∙ c.if-not-has_needed.false in
    let other = not_true c.are_zeros.result (list_all (λ b. b == 0) (padding_bytes bytes)) (c.are_zeros.ensures ∙ ap (list_all (λ b. b == 0)) (padding_at bytes end start c.fields_end-end.ensures.at c.body_start-start.ensures.at)) c.if-not-are_zeros.true in
    let a = bad_padding bytes c.requires is.0.0 is.0.2 keeps all other in
    record { reading = a.reading; only = a.only; refused = a.refused }

pub returns-in-Ok-read_content : goal.returns-in-Ok-read_content
returns-in-Ok-read_content c =
    let bytes = c.args.bytes.now in
    let end = c.fields_end-end.result in
    let start = c.body_start-start.result in
    let is = fields_at bytes c.endian_of-endian.result end (Ok c.in-Ok.fields) c.endian_of-endian.ensures c.fields_end-end.ensures.at c.in-Ok.ensures in
    let fs = is.0.0 in
    let keeps : are_good fs ≡ true = sym (c.are_good.ensures ∙ (ap are_good c.as_slice.ensures ∙ good_from bytes c.in-Ok.fields is.0)) ∙ c.if-not-are_good.false in
    let all : has_needed (kind_of bytes) fs ≡ true = sym (c.has_needed.ensures ∙ (ap (has_needed (kind_of bytes)) c.as_slice-2.ensures ∙ needed_from bytes c.in-Ok.fields is.0 (kind_of bytes))) ∙ c.if-not-has_needed.false in
    let content = c.in-Ok-read_content.content in
    let m = c.message_of.result in
    let zeros : IsTrue (list_all (λ b. b == 0) (padding_bytes bytes)) = sym (c.are_zeros.ensures ∙ ap (list_all (λ b. b == 0)) (padding_at bytes end start c.fields_end-end.ensures.at c.body_start-start.ensures.at)) ∙ c.if-not-are_zeros.false in
    let text = c.text_of-signature.ensures ∙ (ap (text_of 8) c.as_slice-3.ensures ∙ text_from bytes c.in-Ok.fields is.0) in
    let said = content_at bytes fs c.endian_of-endian.result start (option_copied c.text_of-signature.result) (Ok content) c.endian_of-endian.ensures c.body_start-start.ensures.at text c.in-Ok-read_content.ensures in
    let fields = says_from bytes c.in-Ok.fields is.0 m c.message_of.ensures.fields in
    let a = message_read bytes c.requires fs is.0.2 keeps all zeros content m said c.message_of.ensures.header fields c.message_of.ensures.body.0 c.message_of.ensures.body.1 in
    record { reading = a.reading; only = a.only; refused = a.refused }

pub returns-in-Err-read_content : goal.returns-in-Err-read_content
returns-in-Err-read_content c =
    let bytes = c.args.bytes.now in
    let end = c.fields_end-end.result in
    let start = c.body_start-start.result in
    let is = fields_at bytes c.endian_of-endian.result end (Ok c.in-Ok.fields) c.endian_of-endian.ensures c.fields_end-end.ensures.at c.in-Ok.ensures in
    let fs = is.0.0 in
    let keeps : are_good fs ≡ true = sym (c.are_good.ensures ∙ (ap are_good c.as_slice.ensures ∙ good_from bytes c.in-Ok.fields is.0)) ∙ c.if-not-are_good.false in
    let all : has_needed (kind_of bytes) fs ≡ true = sym (c.has_needed.ensures ∙ (ap (has_needed (kind_of bytes)) c.as_slice-2.ensures ∙ needed_from bytes c.in-Ok.fields is.0 (kind_of bytes))) ∙ c.if-not-has_needed.false in
    let zeros : IsTrue (list_all (λ b. b == 0) (padding_bytes bytes)) = sym (c.are_zeros.ensures ∙ ap (list_all (λ b. b == 0)) (padding_at bytes end start c.fields_end-end.ensures.at c.body_start-start.ensures.at)) ∙ c.if-not-are_zeros.false in
    let text = c.text_of-signature.ensures ∙ (ap (text_of 8) c.as_slice-3.ensures ∙ text_from bytes c.in-Ok.fields is.0) in
    let said = content_at bytes fs c.endian_of-endian.result start (option_copied c.text_of-signature.result) (Err c.in-Err-read_content.error) c.endian_of-endian.ensures c.body_start-start.ensures.at text c.in-Err-read_content.ensures in
    let a = body_failed bytes c.requires fs is.0.2 keeps all zeros c.in-Err-read_content.error said in
    record { reading = a.reading; only = a.only; refused = a.refused }

pub returns-in-Err : goal.returns-in-Err
returns-in-Err c =
    let bytes = c.args.bytes.now in
    let a = fields_failed bytes c.requires c.in-Err.error (fields_at bytes c.endian_of-endian.result c.fields_end-end.result (Err c.in-Err.error) c.endian_of-endian.ensures c.fields_end-end.ensures.at c.in-Err.ensures) in
    record { reading = a.reading; only = a.only; refused = a.refused }
