-- `factor_of` meets its contract: each arm's number is the table's entry of specs/. Assumes nothing.
use mathlib.Core.Path.{◌≡◌, sym, ap}
use Prim.Native.Nat.{ℕ}
use native.Mathlib.Omega.{arith}
use lib.ListN.{get_or}
use lib.Ieee.{binary64, of_bits}
use Rattle.gain.specs.Gain.{patterns, factor}
use Rattle.gain.proofs.factor_of.Goals as goal

entry : (b k : ℕ) → b ≡ k → of_bits binary64 (get_or patterns k 0) ≡ factor b
unfolding factor
entry b k e = ap (λ (n : ℕ). of_bits binary64 (get_or patterns n 0)) (sym e)

pub returns-in-0 : goal.returns-in-0
unfolding patterns
returns-in-0 c =
    entry c.args.byte 0 c.in-0.is

pub returns-in-1 : goal.returns-in-1
unfolding patterns
returns-in-1 c =
    entry c.args.byte 1 c.in-1.is

pub returns-in-2 : goal.returns-in-2
unfolding patterns
returns-in-2 c =
    entry c.args.byte 2 c.in-2.is

pub returns-in-3 : goal.returns-in-3
unfolding patterns
returns-in-3 c =
    entry c.args.byte 3 c.in-3.is

pub returns-in-4 : goal.returns-in-4
unfolding patterns
returns-in-4 c =
    entry c.args.byte 4 c.in-4.is

pub returns-in-5 : goal.returns-in-5
unfolding patterns
returns-in-5 c =
    entry c.args.byte 5 c.in-5.is

pub returns-in-6 : goal.returns-in-6
unfolding patterns
returns-in-6 c =
    entry c.args.byte 6 c.in-6.is

pub returns-in-7 : goal.returns-in-7
unfolding patterns
returns-in-7 c =
    entry c.args.byte 7 c.in-7.is

pub returns-in-8 : goal.returns-in-8
unfolding patterns
returns-in-8 c =
    entry c.args.byte 8 c.in-8.is

pub returns-in-9 : goal.returns-in-9
unfolding patterns
returns-in-9 c =
    entry c.args.byte 9 c.in-9.is

pub returns-in-10 : goal.returns-in-10
unfolding patterns
returns-in-10 c =
    entry c.args.byte 10 c.in-10.is

pub returns-in-11 : goal.returns-in-11
unfolding patterns
returns-in-11 c =
    entry c.args.byte 11 c.in-11.is

pub returns-in-12 : goal.returns-in-12
unfolding patterns
returns-in-12 c =
    entry c.args.byte 12 c.in-12.is

pub returns-in-13 : goal.returns-in-13
unfolding patterns
returns-in-13 c =
    entry c.args.byte 13 c.in-13.is

pub returns-in-14 : goal.returns-in-14
unfolding patterns
returns-in-14 c =
    entry c.args.byte 14 c.in-14.is

pub returns-in-15 : goal.returns-in-15
unfolding patterns
returns-in-15 c =
    entry c.args.byte 15 c.in-15.is

pub returns-in-16 : goal.returns-in-16
unfolding patterns
returns-in-16 c =
    entry c.args.byte 16 c.in-16.is

pub returns-in-17 : goal.returns-in-17
unfolding patterns
returns-in-17 c =
    entry c.args.byte 17 c.in-17.is

pub returns-in-18 : goal.returns-in-18
unfolding patterns
returns-in-18 c =
    entry c.args.byte 18 c.in-18.is

pub returns-in-19 : goal.returns-in-19
unfolding patterns
returns-in-19 c =
    entry c.args.byte 19 c.in-19.is

pub returns-in-20 : goal.returns-in-20
unfolding patterns
returns-in-20 c =
    entry c.args.byte 20 c.in-20.is

pub returns-in-21 : goal.returns-in-21
unfolding patterns
returns-in-21 c =
    entry c.args.byte 21 c.in-21.is

pub returns-in-22 : goal.returns-in-22
unfolding patterns
returns-in-22 c =
    entry c.args.byte 22 c.in-22.is

pub returns-in-23 : goal.returns-in-23
unfolding patterns
returns-in-23 c =
    entry c.args.byte 23 c.in-23.is

pub returns-in-24 : goal.returns-in-24
unfolding patterns
returns-in-24 c =
    entry c.args.byte 24 c.in-24.is

pub returns-in-25 : goal.returns-in-25
unfolding patterns
returns-in-25 c =
    entry c.args.byte 25 c.in-25.is

pub returns-in-26 : goal.returns-in-26
unfolding patterns
returns-in-26 c =
    entry c.args.byte 26 c.in-26.is

pub returns-in-27 : goal.returns-in-27
unfolding patterns
returns-in-27 c =
    entry c.args.byte 27 c.in-27.is

pub returns-in-28 : goal.returns-in-28
unfolding patterns
returns-in-28 c =
    entry c.args.byte 28 c.in-28.is

pub returns-in-29 : goal.returns-in-29
unfolding patterns
returns-in-29 c =
    entry c.args.byte 29 c.in-29.is

pub returns-in-30 : goal.returns-in-30
unfolding patterns
returns-in-30 c =
    entry c.args.byte 30 c.in-30.is

pub returns-in-31 : goal.returns-in-31
unfolding patterns
returns-in-31 c =
    entry c.args.byte 31 c.in-31.is

pub returns-in-32 : goal.returns-in-32
unfolding patterns
returns-in-32 c =
    entry c.args.byte 32 c.in-32.is

pub returns-in-33 : goal.returns-in-33
unfolding patterns
returns-in-33 c =
    entry c.args.byte 33 c.in-33.is

pub returns-in-34 : goal.returns-in-34
unfolding patterns
returns-in-34 c =
    entry c.args.byte 34 c.in-34.is

pub returns-in-35 : goal.returns-in-35
unfolding patterns
returns-in-35 c =
    entry c.args.byte 35 c.in-35.is

pub returns-in-36 : goal.returns-in-36
unfolding patterns
returns-in-36 c =
    entry c.args.byte 36 c.in-36.is

pub returns-in-37 : goal.returns-in-37
unfolding patterns
returns-in-37 c =
    entry c.args.byte 37 c.in-37.is

pub returns-in-38 : goal.returns-in-38
unfolding patterns
returns-in-38 c =
    entry c.args.byte 38 c.in-38.is

pub returns-in-39 : goal.returns-in-39
unfolding patterns
returns-in-39 c =
    entry c.args.byte 39 c.in-39.is

pub returns-in-40 : goal.returns-in-40
unfolding patterns
returns-in-40 c =
    entry c.args.byte 40 c.in-40.is

pub returns-in-41 : goal.returns-in-41
unfolding patterns
returns-in-41 c =
    entry c.args.byte 41 c.in-41.is

pub returns-in-42 : goal.returns-in-42
unfolding patterns
returns-in-42 c =
    entry c.args.byte 42 c.in-42.is

pub returns-in-43 : goal.returns-in-43
unfolding patterns
returns-in-43 c =
    entry c.args.byte 43 c.in-43.is

pub returns-in-44 : goal.returns-in-44
unfolding patterns
returns-in-44 c =
    entry c.args.byte 44 c.in-44.is

pub returns-in-45 : goal.returns-in-45
unfolding patterns
returns-in-45 c =
    entry c.args.byte 45 c.in-45.is

pub returns-in-46 : goal.returns-in-46
unfolding patterns
returns-in-46 c =
    entry c.args.byte 46 c.in-46.is

pub returns-in-47 : goal.returns-in-47
unfolding patterns
returns-in-47 c =
    entry c.args.byte 47 c.in-47.is

pub returns-in-48 : goal.returns-in-48
unfolding patterns
returns-in-48 c =
    entry c.args.byte 48 c.in-48.is

pub returns-in-49 : goal.returns-in-49
unfolding patterns
returns-in-49 c =
    entry c.args.byte 49 c.in-49.is

pub returns-in-50 : goal.returns-in-50
unfolding patterns
returns-in-50 c =
    entry c.args.byte 50 c.in-50.is

pub returns-in-51 : goal.returns-in-51
unfolding patterns
returns-in-51 c =
    entry c.args.byte 51 c.in-51.is

pub returns-in-52 : goal.returns-in-52
unfolding patterns
returns-in-52 c =
    entry c.args.byte 52 c.in-52.is

pub returns-in-53 : goal.returns-in-53
unfolding patterns
returns-in-53 c =
    entry c.args.byte 53 c.in-53.is

pub returns-in-54 : goal.returns-in-54
unfolding patterns
returns-in-54 c =
    entry c.args.byte 54 c.in-54.is

pub returns-in-55 : goal.returns-in-55
unfolding patterns
returns-in-55 c =
    entry c.args.byte 55 c.in-55.is

pub returns-in-56 : goal.returns-in-56
unfolding patterns
returns-in-56 c =
    entry c.args.byte 56 c.in-56.is

pub returns-in-57 : goal.returns-in-57
unfolding patterns
returns-in-57 c =
    entry c.args.byte 57 c.in-57.is

pub returns-in-58 : goal.returns-in-58
unfolding patterns
returns-in-58 c =
    entry c.args.byte 58 c.in-58.is

pub returns-in-59 : goal.returns-in-59
unfolding patterns
returns-in-59 c =
    entry c.args.byte 59 c.in-59.is

pub returns-in-60 : goal.returns-in-60
unfolding patterns
returns-in-60 c =
    entry c.args.byte 60 c.in-60.is

pub returns-in-61 : goal.returns-in-61
unfolding patterns
returns-in-61 c =
    entry c.args.byte 61 c.in-61.is

pub returns-in-62 : goal.returns-in-62
unfolding patterns
returns-in-62 c =
    entry c.args.byte 62 c.in-62.is

pub returns-in-63 : goal.returns-in-63
unfolding patterns
returns-in-63 c =
    entry c.args.byte 63 c.in-63.is

pub returns-in-64 : goal.returns-in-64
unfolding patterns
returns-in-64 c =
    entry c.args.byte 64 c.in-64.is

pub returns-in-65 : goal.returns-in-65
unfolding patterns
returns-in-65 c =
    entry c.args.byte 65 c.in-65.is

pub returns-in-66 : goal.returns-in-66
unfolding patterns
returns-in-66 c =
    entry c.args.byte 66 c.in-66.is

pub returns-in-67 : goal.returns-in-67
unfolding patterns
returns-in-67 c =
    entry c.args.byte 67 c.in-67.is

pub returns-in-68 : goal.returns-in-68
unfolding patterns
returns-in-68 c =
    entry c.args.byte 68 c.in-68.is

pub returns-in-69 : goal.returns-in-69
unfolding patterns
returns-in-69 c =
    entry c.args.byte 69 c.in-69.is

pub returns-in-70 : goal.returns-in-70
unfolding patterns
returns-in-70 c =
    entry c.args.byte 70 c.in-70.is

pub returns-in-71 : goal.returns-in-71
unfolding patterns
returns-in-71 c =
    entry c.args.byte 71 c.in-71.is

pub returns-in-72 : goal.returns-in-72
unfolding patterns
returns-in-72 c =
    entry c.args.byte 72 c.in-72.is

pub returns-in-73 : goal.returns-in-73
unfolding patterns
returns-in-73 c =
    entry c.args.byte 73 c.in-73.is

pub returns-in-74 : goal.returns-in-74
unfolding patterns
returns-in-74 c =
    entry c.args.byte 74 c.in-74.is

pub returns-in-75 : goal.returns-in-75
unfolding patterns
returns-in-75 c =
    entry c.args.byte 75 c.in-75.is

pub returns-in-76 : goal.returns-in-76
unfolding patterns
returns-in-76 c =
    entry c.args.byte 76 c.in-76.is

pub returns-in-77 : goal.returns-in-77
unfolding patterns
returns-in-77 c =
    entry c.args.byte 77 c.in-77.is

pub returns-in-78 : goal.returns-in-78
unfolding patterns
returns-in-78 c =
    entry c.args.byte 78 c.in-78.is

pub returns-in-79 : goal.returns-in-79
unfolding patterns
returns-in-79 c =
    entry c.args.byte 79 c.in-79.is

pub returns-in-80 : goal.returns-in-80
unfolding patterns
returns-in-80 c =
    entry c.args.byte 80 c.in-80.is

pub returns-in-81 : goal.returns-in-81
unfolding patterns
returns-in-81 c =
    entry c.args.byte 81 c.in-81.is

pub returns-in-82 : goal.returns-in-82
unfolding patterns
returns-in-82 c =
    entry c.args.byte 82 c.in-82.is

pub returns-in-83 : goal.returns-in-83
unfolding patterns
returns-in-83 c =
    entry c.args.byte 83 c.in-83.is

pub returns-in-84 : goal.returns-in-84
unfolding patterns
returns-in-84 c =
    entry c.args.byte 84 c.in-84.is

pub returns-in-85 : goal.returns-in-85
unfolding patterns
returns-in-85 c =
    entry c.args.byte 85 c.in-85.is

pub returns-in-86 : goal.returns-in-86
unfolding patterns
returns-in-86 c =
    entry c.args.byte 86 c.in-86.is

pub returns-in-87 : goal.returns-in-87
unfolding patterns
returns-in-87 c =
    entry c.args.byte 87 c.in-87.is

pub returns-in-88 : goal.returns-in-88
unfolding patterns
returns-in-88 c =
    entry c.args.byte 88 c.in-88.is

pub returns-in-89 : goal.returns-in-89
unfolding patterns
returns-in-89 c =
    entry c.args.byte 89 c.in-89.is

pub returns-in-90 : goal.returns-in-90
unfolding patterns
returns-in-90 c =
    entry c.args.byte 90 c.in-90.is

pub returns-in-91 : goal.returns-in-91
unfolding patterns
returns-in-91 c =
    entry c.args.byte 91 c.in-91.is

pub returns-in-92 : goal.returns-in-92
unfolding patterns
returns-in-92 c =
    entry c.args.byte 92 c.in-92.is

pub returns-in-93 : goal.returns-in-93
unfolding patterns
returns-in-93 c =
    entry c.args.byte 93 c.in-93.is

pub returns-in-94 : goal.returns-in-94
unfolding patterns
returns-in-94 c =
    entry c.args.byte 94 c.in-94.is

pub returns-in-95 : goal.returns-in-95
unfolding patterns
returns-in-95 c =
    entry c.args.byte 95 c.in-95.is

pub returns-in-96 : goal.returns-in-96
unfolding patterns
returns-in-96 c =
    entry c.args.byte 96 c.in-96.is

pub returns-in-97 : goal.returns-in-97
unfolding patterns
returns-in-97 c =
    entry c.args.byte 97 c.in-97.is

pub returns-in-98 : goal.returns-in-98
unfolding patterns
returns-in-98 c =
    entry c.args.byte 98 c.in-98.is

pub returns-in-99 : goal.returns-in-99
unfolding patterns
returns-in-99 c =
    entry c.args.byte 99 c.in-99.is

pub returns-in-100 : goal.returns-in-100
unfolding patterns
returns-in-100 c =
    entry c.args.byte 100 c.in-100.is

pub returns-in-101 : goal.returns-in-101
unfolding patterns
returns-in-101 c =
    entry c.args.byte 101 c.in-101.is

pub returns-in-102 : goal.returns-in-102
unfolding patterns
returns-in-102 c =
    entry c.args.byte 102 c.in-102.is

pub returns-in-103 : goal.returns-in-103
unfolding patterns
returns-in-103 c =
    entry c.args.byte 103 c.in-103.is

pub returns-in-104 : goal.returns-in-104
unfolding patterns
returns-in-104 c =
    entry c.args.byte 104 c.in-104.is

pub returns-in-105 : goal.returns-in-105
unfolding patterns
returns-in-105 c =
    entry c.args.byte 105 c.in-105.is

pub returns-in-106 : goal.returns-in-106
unfolding patterns
returns-in-106 c =
    entry c.args.byte 106 c.in-106.is

pub returns-in-107 : goal.returns-in-107
unfolding patterns
returns-in-107 c =
    entry c.args.byte 107 c.in-107.is

pub returns-in-108 : goal.returns-in-108
unfolding patterns
returns-in-108 c =
    entry c.args.byte 108 c.in-108.is

pub returns-in-109 : goal.returns-in-109
unfolding patterns
returns-in-109 c =
    entry c.args.byte 109 c.in-109.is

pub returns-in-110 : goal.returns-in-110
unfolding patterns
returns-in-110 c =
    entry c.args.byte 110 c.in-110.is

pub returns-in-111 : goal.returns-in-111
unfolding patterns
returns-in-111 c =
    entry c.args.byte 111 c.in-111.is

pub returns-in-112 : goal.returns-in-112
unfolding patterns
returns-in-112 c =
    entry c.args.byte 112 c.in-112.is

pub returns-in-113 : goal.returns-in-113
unfolding patterns
returns-in-113 c =
    entry c.args.byte 113 c.in-113.is

pub returns-in-114 : goal.returns-in-114
unfolding patterns
returns-in-114 c =
    entry c.args.byte 114 c.in-114.is

pub returns-in-115 : goal.returns-in-115
unfolding patterns
returns-in-115 c =
    entry c.args.byte 115 c.in-115.is

pub returns-in-116 : goal.returns-in-116
unfolding patterns
returns-in-116 c =
    entry c.args.byte 116 c.in-116.is

pub returns-in-117 : goal.returns-in-117
unfolding patterns
returns-in-117 c =
    entry c.args.byte 117 c.in-117.is

pub returns-in-118 : goal.returns-in-118
unfolding patterns
returns-in-118 c =
    entry c.args.byte 118 c.in-118.is

pub returns-in-119 : goal.returns-in-119
unfolding patterns
returns-in-119 c =
    entry c.args.byte 119 c.in-119.is

pub returns-in-120 : goal.returns-in-120
unfolding patterns
returns-in-120 c =
    entry c.args.byte 120 c.in-120.is

pub returns-in-121 : goal.returns-in-121
unfolding patterns
returns-in-121 c =
    entry c.args.byte 121 c.in-121.is

pub returns-in-122 : goal.returns-in-122
unfolding patterns
returns-in-122 c =
    entry c.args.byte 122 c.in-122.is

pub returns-in-123 : goal.returns-in-123
unfolding patterns
returns-in-123 c =
    entry c.args.byte 123 c.in-123.is

pub returns-in-124 : goal.returns-in-124
unfolding patterns
returns-in-124 c =
    entry c.args.byte 124 c.in-124.is

pub returns-in-125 : goal.returns-in-125
unfolding patterns
returns-in-125 c =
    entry c.args.byte 125 c.in-125.is

pub returns-in-126 : goal.returns-in-126
unfolding patterns
returns-in-126 c =
    entry c.args.byte 126 c.in-126.is

-- the last arm is that of the one byte which is left below 128
pub returns-in_default : goal.returns-in_default
unfolding patterns
returns-in_default c =
    let last : c.args.byte ≡ 127 = omega arith in
    entry c.args.byte 127 last
