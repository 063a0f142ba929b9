-- Written by tools/write_decoder_proofs: each row's word is written as it was read.
use Rattle.std.proofs.Common.{◌≡◌, ℕ, ◌<◌, ◌^◌, Some, drop}
use Rattle.rv64_core.specs.declared.instruction.Instr.{Instr}
use Rattle.rv64_core.specs.Rows.{table, decoded}
use Rattle.rv64_core.specs.Encoding.{encoded}
use Rattle.rv64_core.proofs.Written.{
  AllBack,
  back_of,
  u_back,
  j_back,
  i_back,
  b_back,
  s_back,
  shift_back,
  word_shift_back,
  r_back,
  field_back,
  number_back,
  alone_back,
}

back_from_60 : AllBack (drop 60 table)
unfolding AllBack table encoded
back_from_60 = (
  record { back = r_back 0x0200603b },
  (
    record { back = r_back 0x0200703b },
    (
      record { back = field_back 0x0000000f },
      (
        record { back = field_back 0x00001073 },
        (
          record { back = field_back 0x00002073 },
          (
            record { back = field_back 0x00003073 },
            (
              record { back = number_back 0x00005073 },
              (
                record { back = number_back 0x00006073 },
                (
                  record { back = number_back 0x00007073 },
                  (
                    record { back = alone_back 0x00000073 },
                    (
                      record { back = alone_back 0x00100073 },
                      (
                        record { back = alone_back 0x30200073 },
                        (
                          record { back = alone_back 0x10500073 },
                          tt,
                        ),
                      ),
                    ),
                  ),
                ),
              ),
            ),
          ),
        ),
      ),
    ),
  ),
)

back_from_30 : AllBack (drop 30 table)
unfolding AllBack table encoded
back_from_30 = (
  record { back = r_back 0x00000033 },
  (
    record { back = r_back 0x00001033 },
    (
      record { back = r_back 0x00002033 },
      (
        record { back = r_back 0x00003033 },
        (
          record { back = r_back 0x00004033 },
          (
            record { back = r_back 0x00005033 },
            (
              record { back = r_back 0x00006033 },
              (
                record { back = r_back 0x00007033 },
                (
                  record { back = r_back 0x40000033 },
                  (
                    record { back = r_back 0x40005033 },
                    (
                      record { back = r_back 0x02000033 },
                      (
                        record { back = r_back 0x02001033 },
                        (
                          record { back = r_back 0x02002033 },
                          (
                            record { back = r_back 0x02003033 },
                            (
                              record { back = r_back 0x02004033 },
                              (
                                record { back = r_back 0x02005033 },
                                (
                                  record { back = r_back 0x02006033 },
                                  (
                                    record { back = r_back 0x02007033 },
                                    (
                                      record { back = i_back 0x0000001b },
                                      (
                                        record { back = word_shift_back 0x0000101b },
                                        (
                                          record { back = word_shift_back 0x0000501b },
                                          (
                                            record { back = word_shift_back 0x4000501b },
                                            (
                                              record { back = r_back 0x0000003b },
                                              (
                                                record { back = r_back 0x0000103b },
                                                (
                                                  record { back = r_back 0x0000503b },
                                                  (
                                                    record { back = r_back 0x4000003b },
                                                    (
                                                      record { back = r_back 0x4000503b },
                                                      (
                                                        record { back = r_back 0x0200003b },
                                                        (
                                                          record { back = r_back 0x0200403b },
                                                          (
                                                            record { back = r_back 0x0200503b },
                                                            back_from_60,
                                                          ),
                                                        ),
                                                      ),
                                                    ),
                                                  ),
                                                ),
                                              ),
                                            ),
                                          ),
                                        ),
                                      ),
                                    ),
                                  ),
                                ),
                              ),
                            ),
                          ),
                        ),
                      ),
                    ),
                  ),
                ),
              ),
            ),
          ),
        ),
      ),
    ),
  ),
)

all_back : AllBack table
unfolding AllBack table encoded
all_back = (
  record { back = u_back 0x00000037 },
  (
    record { back = u_back 0x00000017 },
    (
      record { back = j_back 0x0000006f },
      (
        record { back = i_back 0x00000067 },
        (
          record { back = b_back 0x00000063 },
          (
            record { back = b_back 0x00001063 },
            (
              record { back = b_back 0x00004063 },
              (
                record { back = b_back 0x00005063 },
                (
                  record { back = b_back 0x00006063 },
                  (
                    record { back = b_back 0x00007063 },
                    (
                      record { back = i_back 0x00000003 },
                      (
                        record { back = i_back 0x00001003 },
                        (
                          record { back = i_back 0x00002003 },
                          (
                            record { back = i_back 0x00003003 },
                            (
                              record { back = i_back 0x00004003 },
                              (
                                record { back = i_back 0x00005003 },
                                (
                                  record { back = i_back 0x00006003 },
                                  (
                                    record { back = s_back 0x00000023 },
                                    (
                                      record { back = s_back 0x00001023 },
                                      (
                                        record { back = s_back 0x00002023 },
                                        (
                                          record { back = s_back 0x00003023 },
                                          (
                                            record { back = i_back 0x00000013 },
                                            (
                                              record { back = i_back 0x00002013 },
                                              (
                                                record { back = i_back 0x00003013 },
                                                (
                                                  record { back = i_back 0x00004013 },
                                                  (
                                                    record { back = i_back 0x00006013 },
                                                    (
                                                      record { back = i_back 0x00007013 },
                                                      (
                                                        record { back = shift_back 0x00001013 },
                                                        (
                                                          record { back = shift_back 0x00005013 },
                                                          (
                                                            record { back = shift_back 0x40005013 },
                                                            back_from_30,
                                                          ),
                                                        ),
                                                      ),
                                                    ),
                                                  ),
                                                ),
                                              ),
                                            ),
                                          ),
                                        ),
                                      ),
                                    ),
                                  ),
                                ),
                              ),
                            ),
                          ),
                        ),
                      ),
                    ),
                  ),
                ),
              ),
            ),
          ),
        ),
      ),
    ),
  ),
)

pub encoded_decoded : (w : ℕ) (i : Instr) → w < 2 ^ 32 → decoded w ≡ Some i → encoded i ≡ w
unfolding decoded
encoded_decoded w i h e = back_of table w i all_back h e
